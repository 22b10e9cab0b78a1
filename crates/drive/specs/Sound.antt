use Rattle.std.specs.Prelude.{◌≡◌, ℕ, ◌<◌, ◌≤◌, IsTrue}
use Rattle.drive.specs.declared.address_byte.AddressByte.{AddressByte}
use Rattle.drive.specs.declared.address_byte.AddressByte.TheVariants.{First, Second}
use Rattle.drive.specs.declared.drive_shape.Shape.{Shape}
use Rattle.drive.specs.declared.place.Place.{Place}
use Rattle.drive.specs.Geometry.{Geometry}
use Rattle.drive.specs.Places.{unit_sectors, has_place}

-- The byte that has the write-protect bit has seven bits left for its number, the other has eight.
abbrev pub most_tracks : AddressByte → ℕ
most_tracks First = 128
most_tracks Second = 256

abbrev pub most_sectors : AddressByte → ℕ
most_sectors First = 256
most_sectors Second = 128

-- the bounds that each row of a table of models keeps
pub record IsBounded (s : Shape) : Type 0 where
  pub some_track : 0 < s.tracks
  pub some_sector : 0 < s.sectors_per_track
  pub some_switched : 0 < s.tracks_per_switch
  pub some_port : 0 < s.ports
  pub some_unit : 0 < s.most_units
  pub tracks_fit : s.tracks ≤ most_tracks s.protect_bit
  pub sectors_fit : s.sectors_per_track ≤ most_sectors s.protect_bit
  pub ports_fit : s.ports ≤ 2
  pub units_fit : s.most_units ≤ 8

-- A sound model keeps the bounds, and its numbering and its places undo each other inside the unit.
pub record IsSound (g : Geometry) : Type 0 where
  pub bounded : IsBounded g.shape
  pub number_in_unit : (p : Place) → IsTrue (has_place g p) → g.number p < unit_sectors g
  pub place_in_unit : (n : ℕ) → n < unit_sectors g → IsTrue (has_place g (g.place n))
  pub place_of_number : (p : Place) → IsTrue (has_place g p) → g.place (g.number p) ≡ p
  pub number_of_place : (n : ℕ) → n < unit_sectors g → g.number (g.place n) ≡ n
