use Rattle.std.proofs.Common.{◌≡◌, ◌<◌, ℕ, List, length, arith, lit<}
use Rattle.std.specs.Int.{to_be_bytes, w32}
use Rattle.std.proofs.lemmas.List.{length-append, length-take, length-drop}
use Rattle.std.proofs.lemmas.List.Elements.{All-drop, All-take}
use Rattle.store.specs.CheckedRecord.{checked_sector, checksum, good_record, layout}
use Rattle.store.specs.RecordFormat.{Format, HoldsSectors}
use Rattle.store.specs.Sector.{good_sector}

-- a record of a plain image is a sector's bytes, always good
abbrev pub plain_format : Format
plain_format = record { sector_of = good_sector; record_of = λ c. c }

abbrev pub checked_format : Format
checked_format = record { sector_of = checked_sector; record_of = good_record }

pub length-good_record : (c : List ℕ) → length c ≡ 1024 → length (good_record c) ≡ 1029
unfolding layout
length-good_record c h = omega (arith, length-append c (to_be_bytes w32 (checksum c)))

pub HoldsSectors-plain_format : HoldsSectors 1024 plain_format
HoldsSectors-plain_format = record { some_byte = lit< tt; in_memory = lit< tt; made = λ c h. h; whole = λ r h. h; bytes = λ r h. h }

pub HoldsSectors-checked_format : HoldsSectors 1029 checked_format
HoldsSectors-checked_format =
    record {
      some_byte = lit< tt;
      in_memory = lit< tt;
      made = length-good_record;
      whole = λ r h. simp (length-take, length-drop) (omega arith);
      bytes = λ r h. All-take (λ x. x < 256) 1024 _ (All-drop (λ x. x < 256) 1 r h);
    }
