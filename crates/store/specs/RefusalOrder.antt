use Rattle.std.specs.Prelude.{◌≡◌, ℕ, ◌<◌, ◌≤◌, List, length, Some, None, Ok, Err, ◌≢◌}
use Rattle.store.specs.declared.sector_mark.Mark.{Mark}
use Rattle.store.specs.declared.store_fault.StoreFault.TheVariants.{NoSector, BufferLength, DeadSector}
use Rattle.store.specs.Access.{read_answer, write_answer}
use Rattle.store.specs.Sector.{Sector, sector_at}

-- How a read and a write of sector n with the buffer b are answered: by the first check that fails, and
-- by the mark where none does.
pub record RefusalOrder {W : Type 0} (named : ℕ → W) (ss : List Sector) (n : ℕ) (b : List ℕ) : Type 0 where
  pub absent : length ss ≤ n → (read_answer named ss n b ≡ Err (NoSector (named n))) × (write_answer named ss n b ≡ Err (NoSector (named n)))
  pub wrong_length : n < length ss → (length b ≢ 1024) → (read_answer named ss n b ≡ Err BufferLength) × (write_answer named ss n b ≡ Err BufferLength)
  pub dead : n < length ss → length b ≡ 1024 → (sector_at ss n).mark ≡ None → (read_answer named ss n b ≡ Err (DeadSector (named n))) × (write_answer named ss n b ≡ Err (DeadSector (named n)))
  pub taken_up : (m : Mark) → n < length ss → length b ≡ 1024 → (sector_at ss n).mark ≡ Some m → (read_answer named ss n b ≡ Ok m) × (write_answer named ss n b ≡ Ok tt)
