use Rattle.std.specs.Prelude.{ℕ, if◌then◌else◌, List, ◌∷◌, ◌++◌, take, drop, sum, Some, None, Option, ◌==◌, slice_index}
use Rattle.std.specs.Int.{from_be_bytes, to_be_bytes, w32}
use Rattle.store.specs.declared.sector_mark.Mark.{Mark}
use Rattle.store.specs.declared.sector_mark.Mark.TheVariants.{Good, Bad}
use Rattle.store.specs.Sector.{Sector}

-- the sum of a sector's bytes
abbrev pub checksum : List ℕ → ℕ
checksum b = sum b

-- the 1,024 data bytes after the state byte, and the sum after them in four bytes, high byte first
abbrev pub data_of : List ℕ → List ℕ
data_of r = take 1024 (drop 1 r)

abbrev pub kept_sum : List ℕ → ℕ
kept_sum r = from_be_bytes w32 (drop 1025 r)

-- state 0 is in use, any other dead; a sector in use is bad exactly when its sum differs
abbrev pub mark_of : List ℕ → Option Mark
mark_of r =
    if slice_index r 0 == 0 then Some (if checksum (data_of r) == kept_sum r then Good else Bad) else None

abbrev pub checked_sector : List ℕ → Sector
checked_sector r = record { bytes = data_of r; mark = mark_of r }

-- a record of a sector in use, with this data and this sum
unfoldable pub layout : List ℕ → ℕ → List ℕ
layout d sum = 0 ∷ (d ++ to_be_bytes w32 sum)

-- the record of a good sector
abbrev pub good_record : List ℕ → List ℕ
good_record d = layout d (checksum d)
