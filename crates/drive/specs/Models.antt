use Rattle.drive.specs.declared.address_byte.AddressByte.TheVariants.{First, Second}
use Rattle.drive.specs.declared.drive_shape.Shape.{Shape}
use Rattle.drive.specs.declared.rad_model.RadModel.{RadModel}
use Rattle.drive.specs.declared.rad_model.RadModel.TheVariants.{Sds7212, Xerox3214, Bench}

-- the table of the built-in models
abbrev pub shape_of : RadModel → Shape
shape_of Sds7212 =
    record { tracks = 64; sectors_per_track = 82; tracks_per_switch = 4; ports = 1; most_units = 4; protect_bit = First }
shape_of Xerox3214 =
    record { tracks = 256; sectors_per_track = 11; tracks_per_switch = 64; ports = 2; most_units = 8; protect_bit = Second }
shape_of Bench =
    record { tracks = 4; sectors_per_track = 5; tracks_per_switch = 2; ports = 2; most_units = 2; protect_bit = Second }
