use Rattle.std.specs.Prelude.{ℕ, if◌then◌else◌, List, length, Ok, Err, Result, ok_or, ◌==◌, nat_lt, slice_set}
use Rattle.std.specs.Result.{result_and}
use Rattle.store.specs.declared.sector_mark.Mark.{Mark}
use Rattle.store.specs.declared.store_fault.StoreFault.{StoreFault}
use Rattle.store.specs.declared.store_fault.StoreFault.TheVariants.{NoSector, BufferLength, DeadSector}
use Rattle.store.specs.Sector.{Sector, good_sector, sector_at}

-- the checks of the number and of the buffer's length, in this order, in a row of `size` sectors
abbrev pub admission : ℕ → ℕ → ℕ → Result (Unit {0}) (StoreFault ℕ)
admission size n len =
    if nat_lt n size then (if len == 1024 then Ok tt else Err BufferLength) else Err (NoSector n)

-- the mark of sector n, or the first check that refuses a call on it with a buffer of this length:
-- after those two, that the sector is in use
abbrev pub access : List Sector → ℕ → ℕ → Result Mark (StoreFault ℕ)
access ss n len = result_and (admission (length ss) n len) (ok_or (sector_at ss n).mark (DeadSector n))

-- a report, in the store's own names of its sectors
abbrev pub fault_report : {W : Type 0} → (ℕ → W) → StoreFault ℕ → StoreFault W
fault_report named (NoSector n) = NoSector (named n)
fault_report named BufferLength = BufferLength
fault_report named (DeadSector n) = DeadSector (named n)

abbrev pub report : {W X : Type 0} → (ℕ → W) → Result X (StoreFault ℕ) → Result X (StoreFault W)
report named (Ok x) = Ok x
report named (Err f) = Err (fault_report named f)

-- a refused call leaves what was there
abbrev pub if_taken : {X Y E : Type 0} → Result X E → Y → Y → Y
if_taken (Ok x) new old = new
if_taken (Err e) new old = old

abbrev pub read_answer : {W : Type 0} → (ℕ → W) → List Sector → ℕ → List ℕ → Result Mark (StoreFault W)
read_answer named ss n b = report named (access ss n (length b))

abbrev pub read_buffer : List Sector → ℕ → List ℕ → List ℕ
read_buffer ss n b = if_taken (access ss n (length b)) (sector_at ss n).bytes b

abbrev pub write_answer : {W : Type 0} → (ℕ → W) → List Sector → ℕ → List ℕ → Result (Unit {0}) (StoreFault W)
write_answer named ss n b = report named (result_and (access ss n (length b)) (Ok tt))

abbrev pub write_sectors : List Sector → ℕ → List ℕ → List Sector
write_sectors ss n b = if_taken (access ss n (length b)) (slice_set ss n (good_sector b)) ss
