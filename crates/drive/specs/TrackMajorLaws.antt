use Rattle.std.specs.Prelude.{◌<◌, IsTrue, nat_lt}
use Rattle.std.proofs.Common.{arith, ltb-true, rules}
use Rattle.std.proofs.lemmas.Bool.{and_parts}
use Rattle.std.proofs.lemmas.Nat.{mul-add-lt, div-mul-add, mod-mul-add, div_below, mod_below, div-add-mod'}
use Rattle.drive.specs.declared.drive_shape.Shape.{Shape}
use Rattle.drive.specs.declared.place.Place.{Place}
use Rattle.drive.specs.declared.rad_model.RadModel.{RadModel}
use Rattle.drive.specs.Geometry.{Geometry}
use Rattle.drive.specs.Models.{shape_of}
use Rattle.drive.specs.Places.{has_place}
use Rattle.drive.specs.Sound.{IsBounded, IsSound}
use Rattle.drive.specs.TrackMajor.{track_major}

-- a place of a unit is within both of its counts
within_counts : (g : Geometry) (p : Place) → IsTrue (has_place g p) → (p.track < g.shape.tracks) × (p.sector < g.shape.sectors_per_track)
within_counts g p in_unit =
    let tests = and_parts (nat_lt p.track g.shape.tracks) (nat_lt p.sector g.shape.sectors_per_track) in_unit in
    (ltb-true p.track g.shape.tracks tests.0, ltb-true p.sector g.shape.sectors_per_track tests.1)

-- Numbering along the tracks is sound at any counts within the bounds.
pub IsSound-track_major : (s : Shape) → IsBounded s → IsSound (track_major s)
IsSound-track_major s bounded =
    record {
      bounded = bounded;
      number_in_unit = λ p in_unit.
          let within = within_counts (track_major s) p in_unit in
          omega (arith, mul-add-lt p.track s.sectors_per_track p.sector s.tracks within.0 within.1);
      place_in_unit = λ n in_unit. grind (arith, div_below, mod_below);
      place_of_number = λ p in_unit.
          let in_track : p.sector < s.sectors_per_track = (within_counts (track_major s) p in_unit).1 in rw (div-mul-add, mod-mul-add);
      number_of_place = λ n in_unit. div-add-mod' n s.sectors_per_track;
    }

-- Each row of the table keeps the bounds, so every built-in model is sound.
pub IsSound-shape_of : (m : RadModel) → IsSound (track_major (shape_of m))
IsSound-shape_of m = IsSound-track_major (shape_of m) (search rules)
