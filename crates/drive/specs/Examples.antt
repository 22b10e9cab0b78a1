use Rattle.drive.specs.declared.examples.EdgeExamples.{EdgeExamples}
use Rattle.drive.specs.declared.rad_model.RadModel.{RadModel}
use Rattle.drive.specs.declared.rad_model.RadModel.TheVariants.{Sds7212, Xerox3214, Bench}
use Rattle.drive.specs.Geometry.{Geometry}
use Rattle.drive.specs.Models.{shape_of}
use Rattle.drive.specs.Places.{number_at, place_at, unit_sectors}
use Rattle.drive.specs.Switches.{switch_at}
use Rattle.drive.specs.TrackMajor.{track_major}

-- how a built-in model is numbered
abbrev pub geometry_of : RadModel → Geometry
geometry_of m = track_major (shape_of m)

-- the worked examples as the rules give them
abbrev pub edges_by_rule : EdgeExamples
edges_by_rule =
    record {
      last_of_3214 = number_at (geometry_of Xerox3214) (record { track = 255; sector = 10 });
      last_of_7212 = number_at (geometry_of Sds7212) (record { track = 63; sector = 81 });
      second_sector_of_3214 = number_at (geometry_of Xerox3214) (record { track = 0; sector = 1 });
      second_track_of_3214 = number_at (geometry_of Xerox3214) (record { track = 1; sector = 0 });
      place_11_of_3214 = place_at (geometry_of Xerox3214) 11;
      switch_of_63 = switch_at (geometry_of Xerox3214) 63;
      switch_of_64 = switch_at (geometry_of Xerox3214) 64;
      sectors_of_7212 = unit_sectors (geometry_of Sds7212);
      sectors_of_3214 = unit_sectors (geometry_of Xerox3214);
      sectors_of_bench = unit_sectors (geometry_of Bench);
    }
