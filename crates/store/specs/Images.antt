use Rattle.std.specs.Prelude.{ℕ, ◌+◌, ◌*◌, ◌/◌, ◌%◌, Bool, if◌then◌else◌, ◌&&◌, List, ◌++◌, map, length, take, drop, ◌==◌, nat_le}
use Rattle.std.specs.List.{range_with_len}
use Rattle.store.specs.Access.{access, if_taken}
use Rattle.store.specs.Formats.{checked_format, plain_format}
use Rattle.store.specs.RecordFormat.{Format}
use Rattle.store.specs.Sector.{Sector}

-- an image of records of w bytes is fit for a store: whole records, and no more than a store may have
abbrev pub is_fit : ℕ → ℕ → Bool
is_fit w len = len % w == 0 && nat_le (len / w) 4294967295

-- how many records of w bytes so many bytes hold; memory that is not fit holds none
abbrev pub record_count : ℕ → ℕ → ℕ
record_count w len = if is_fit w len then len / w else 0

-- record k
abbrev pub record_at : ℕ → List ℕ → ℕ → List ℕ
record_at w bs k = take w (drop (k * w) bs)

-- the image with another record n
abbrev pub with_record : ℕ → List ℕ → ℕ → List ℕ → List ℕ
with_record w bs n r = take (n * w) bs ++ (r ++ drop (n * w + w) bs)

-- the sectors of an image of records of w bytes
unfoldable pub image_sectors : ℕ → Format → List ℕ → List Sector
image_sectors w fmt bs = map (λ k. fmt.sector_of (record_at w bs k)) (range_with_len 0 (record_count w (length bs)))

abbrev pub plain_sectors : List ℕ → List Sector
plain_sectors bs = image_sectors 1024 plain_format bs

abbrev pub checked_sectors : List ℕ → List Sector
checked_sectors bs = image_sectors 1029 checked_format bs

-- the image after a write: another record n, made of the buffer, or the same bytes where it was refused
abbrev pub written_image : ℕ → Format → List ℕ → ℕ → List ℕ → List ℕ
written_image w fmt bs n b =
    if_taken (access (image_sectors w fmt bs) n (length b)) (with_record w bs n (fmt.record_of b)) bs
