use Rattle.std.specs.Prelude.{ℕ, ◌<◌, ◌≡◌, ◌^◌, List, length}
use Rattle.store.specs.Sector.{Sector}
use Rattle.store.specs.Sound.{IsBytes}

-- how an image keeps a sector in a record
pub record Format : Type 0 where
  -- the sector that a record holds
  pub sector_of : List ℕ → Sector
  -- the record of a good sector with this content
  pub record_of : List ℕ → List ℕ

-- In records of w bytes, some and no more than memory has, each is read as a whole sector, of bytes where it has
-- bytes itself, and a sector's content makes a whole record.
pub record HoldsSectors (w : ℕ) (fmt : Format) : Type 0 where
  pub some_byte : 0 < w
  pub in_memory : w < 2 ^ 62
  pub made : (c : List ℕ) → length c ≡ 1024 → length (fmt.record_of c) ≡ w
  pub whole : (r : List ℕ) → length r ≡ w → length (fmt.sector_of r).bytes ≡ 1024
  pub bytes : (r : List ℕ) → IsBytes r → IsBytes (fmt.sector_of r).bytes
