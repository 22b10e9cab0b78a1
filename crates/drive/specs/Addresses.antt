use Rattle.std.specs.Prelude.{◌<◌}
use Rattle.drive.specs.declared.address_byte.AddressByte.{AddressByte}
use Rattle.drive.specs.declared.address_byte.AddressByte.TheVariants.{First, Second}
use Rattle.drive.specs.declared.place.Place.{Place}

-- track and sector fit their bytes of an address, below the write-protect bit in the byte that has it
abbrev pub AddressFits : AddressByte → Place → Type 0
AddressFits First p = (p.track < 128) × (p.sector < 256)
AddressFits Second p = (p.track < 256) × (p.sector < 128)
