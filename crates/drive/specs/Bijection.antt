use Rattle.std.specs.Prelude.{◌≡◌, ℕ, ◌<◌, if◌then◌else◌, IsTrue, Some, None, Option, nat_lt}
use Rattle.drive.specs.declared.place.Place.{Place}
use Rattle.drive.specs.Geometry.{Geometry}
use Rattle.drive.specs.Places.{unit_sectors, has_place, number_at, place_at}

-- a number that the unit has, and none in place of any other
abbrev pub unit_number : Geometry → ℕ → Option ℕ
unit_number g n = if nat_lt n (unit_sectors g) then Some n else None

-- the unit has this place and this number, and each is the other's
pub record Matches (g : Geometry) (p : Place) (n : ℕ) : Type 0 where
  pub place_in_unit : IsTrue (has_place g p)
  pub number_in_unit : n < unit_sectors g
  pub to_number : number_at g p ≡ Some n
  pub to_place : place_at g n ≡ Some p

-- the unit's places and the numbers below its count of sectors, matched one to one
pub record IsBijection (g : Geometry) : Type 0 where
  pub each_place : (p : Place) → IsTrue (has_place g p) → Matches g p (g.number p)
  pub each_number : (n : ℕ) → n < unit_sectors g → Matches g (g.place n) n
