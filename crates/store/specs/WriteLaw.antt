use Rattle.std.specs.Prelude.{◌≡◌, ℕ, List, length, Ok, Err, ◌≢◌}
use Rattle.store.specs.declared.sector_mark.Mark.TheVariants.{Good}
use Rattle.store.specs.declared.store_fault.StoreFault.{StoreFault}
use Rattle.store.specs.Access.{read_answer, read_buffer, write_answer, write_sectors}
use Rattle.store.specs.Sector.{Sector}
use Rattle.store.specs.Sound.{IsBytes, IsSound}

-- What a write of b to sector n leaves, as the reads after it tell: into any buffer `old` of a sector's
-- length, and at any other sector k into any buffer at all.
pub record WriteLaw {W : Type 0} (named : ℕ → W) (ss : List Sector) (n : ℕ) (b : List ℕ) : Type 0 where
  -- a write that was not refused is read back, good
  pub marks : write_answer named ss n b ≡ Ok tt → (old : List ℕ) → length old ≡ 1024 → read_answer named (write_sectors ss n b) n old ≡ Ok Good
  pub returns : write_answer named ss n b ≡ Ok tt → (old : List ℕ) → length old ≡ 1024 → read_buffer (write_sectors ss n b) n old ≡ b
  -- a refused one alters nothing
  pub refused : (f : StoreFault W) → write_answer named ss n b ≡ Err f → write_sectors ss n b ≡ ss
  -- either way the row keeps its size and every other sector, and stays sound
  pub keeps_size : length (write_sectors ss n b) ≡ length ss
  pub keeps_marks : (k : ℕ) → (k ≢ n) → (old : List ℕ) → read_answer named (write_sectors ss n b) k old ≡ read_answer named ss k old
  pub keeps_bytes : (k : ℕ) → (k ≢ n) → (old : List ℕ) → read_buffer (write_sectors ss n b) k old ≡ read_buffer ss k old
  pub stays_sound : IsSound ss → IsBytes b → IsSound (write_sectors ss n b)
