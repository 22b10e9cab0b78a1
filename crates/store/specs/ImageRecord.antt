use Rattle.std.specs.Prelude.{◌≡◌, ℕ, ◌<◌, List, length}
use Rattle.store.specs.Images.{image_sectors, record_at, record_count}
use Rattle.store.specs.RecordFormat.{Format}
use Rattle.store.specs.Sector.{sector_at}

-- the part of an image of records of w bytes that holds its sector n
pub record IsRecordOf (w : ℕ) (fmt : Format) (bs : List ℕ) (n : ℕ) (part : List ℕ) : Type 0 where
  pub is : part ≡ record_at w bs n
  pub within : n < record_count w (length bs)
  pub counted : n < length (image_sectors w fmt bs)
  pub whole : length part ≡ w
  pub means : sector_at (image_sectors w fmt bs) n ≡ fmt.sector_of part
