use Rattle.std.specs.Prelude.{ℕ, ◌*◌, Bool, ◌&&◌, if◌then◌else◌, Some, None, Option, nat_lt}
use Rattle.drive.specs.declared.place.Place.{Place}
use Rattle.drive.specs.Geometry.{Geometry}

-- how many sectors a unit has
abbrev pub unit_sectors : Geometry → ℕ
unit_sectors g = g.shape.tracks * g.shape.sectors_per_track

-- whether a unit has this place
abbrev pub has_place : Geometry → Place → Bool
has_place g p = nat_lt p.track g.shape.tracks && nat_lt p.sector g.shape.sectors_per_track

-- the number of a place, and none of an absent one
abbrev pub number_at : Geometry → Place → Option ℕ
number_at g p = if has_place g p then Some (g.number p) else None

-- the place of a number, and none of one past the last
abbrev pub place_at : Geometry → ℕ → Option Place
place_at g n = if nat_lt n (unit_sectors g) then Some (g.place n) else None
