use Rattle.std.specs.Prelude.{◌+◌, ◌*◌, ◌/◌, ◌%◌}
use Rattle.drive.specs.declared.drive_shape.Shape.{Shape}
use Rattle.drive.specs.Geometry.{Geometry}

-- the sectors numbered along each track, one track after another
abbrev pub track_major : Shape → Geometry
track_major s =
    record {
      shape = s;
      number = λ p. p.track * s.sectors_per_track + p.sector;
      place = λ n. record { track = n / s.sectors_per_track; sector = n % s.sectors_per_track };
    }
