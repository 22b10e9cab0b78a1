use Rattle.std.proofs.Common.{◌≡◌, ℕ, suc, ◌+◌, ◌-◌, ◌*◌, ◌/◌, ◌<◌, ◌≤◌, ◌≢◌, if◌then◌else◌, List, ◌++◌, Some, None, Option, OnSome, is_some, length, take, drop, set, sym, refl, ap, ◌∙◌, subst, ⊎_elim, mul-le-mul_right, suc-mul, div-mul-le_self, arith}
use borrow.Rule.Slice.PartMut.{put_mid}
use Rattle.std.proofs.lemmas.List.FromFn.{length-map-range_with_len, get_or-map-range_with_len}
use Rattle.std.proofs.lemmas.List.{length-set, length-take, length-drop, length-append, get_or-set_same, get_or-set_other, ext_get_or, drop-take, take-append-drop}
use Rattle.std.proofs.lemmas.Slice.{take-put_mid_below, drop-put_mid, between-put_mid}
use Rattle.std.proofs.lemmas.Bool.{cases_order}
use Rattle.std.proofs.lemmas.Bool.Decides.{nat_tests}
use Rattle.store.specs.ImageRecord.{IsRecordOf}
use Rattle.store.specs.Images.{image_sectors, record_at, record_count}
use Rattle.store.specs.RecordFormat.{Format}
use Rattle.store.specs.Sector.{Sector, blank, sector_at}

-- a record that is counted lies within the bytes
pub record_in_bytes : (w len n : ℕ) → n < record_count w len → n * w + w ≤ len
record_in_bytes w len n h =
    let below : n < len / w = grind (arith, nat_tests) in
    let records : suc n * w ≤ len / w * w = mul-le-mul_right w below in
    let one_more = suc-mul n w in
    let all = div-mul-le_self len w in
    omega arith

pub record_count-le : (w len : ℕ) → record_count w len ≤ 4294967295
record_count-le w len = grind (arith, nat_tests)

pub length-record_at : (w : ℕ) (bs : List ℕ) (n : ℕ) → n < record_count w (length bs) → length (record_at w bs n) ≡ w
length-record_at w bs n h =
    let within = record_in_bytes w (length bs) n h in simp (length-take, length-drop) (omega arith)

-- a part that is written as it was
put_mid-between : (a k : ℕ) (bs : List ℕ) → put_mid a k bs (take k (drop a bs)) ≡ bs
put_mid-between a k bs = ap (λ l. take a bs ++ l) (take-append-drop k (drop a bs)) ∙ take-append-drop a bs

-- the records of an image, each read as a sector
module _ (w : ℕ) (fmt : Format) (bs : List ℕ) where
  pub length-image_sectors : length (image_sectors w fmt bs) ≡ record_count w (length bs)
  unfolding image_sectors
  length-image_sectors = length-map-range_with_len _ 0 _

  pub sector_at-image_sectors : (n : ℕ) → n < record_count w (length bs) → sector_at (image_sectors w fmt bs) n ≡ fmt.sector_of (record_at w bs n)
  unfolding image_sectors
  sector_at-image_sectors n h = get_or-map-range_with_len _ 0 _ n n blank h (omega arith)

  -- the part that the code lends
  pub IsRecordOf-record_at : (n : ℕ) → n < record_count w (length bs) → IsRecordOf w fmt bs n (record_at w bs n)
  IsRecordOf-record_at n h =
      record {
        is = refl;
        within = h;
        counted = omega (arith, length-image_sectors);
        whole = length-record_at w bs n h;
        means = sector_at-image_sectors n h;
      }

  pub IsRecordOf-between : (n : ℕ) → n < record_count w (length bs) → IsRecordOf w fmt bs n (take ((n * w + w) - n * w) (drop (n * w) bs))
  IsRecordOf-between n h =
      let width : (n * w + w) - n * w ≡ w = omega arith in
      subst (λ k. IsRecordOf w fmt bs n (take k (drop (n * w) bs))) (sym width) (IsRecordOf-record_at n h)

-- record n was written
module _ (w : ℕ) (fmt : Format) (bs row : List ℕ) (n : ℕ) (h : n < record_count w (length bs)) (whole : length row ≡ w) where
  abbrev new : List ℕ
  new = put_mid (n * w) w bs row

  length-new : length new ≡ length bs
  length-new =
      let within = record_in_bytes w (length bs) n h in simp (length-append, length-take, length-drop) (omega arith)

  record_at-new_below : (k : ℕ) → k < n → record_at w new k ≡ record_at w bs k
  record_at-new_below k l =
      let within = record_in_bytes w (length bs) n h in
      let records : suc k * w ≤ n * w = mul-le-mul_right w l in
      let one_more = suc-mul k w in
      sym (drop-take (k * w) w new)
      ∙ (ap (drop (k * w)) (take-put_mid_below (n * w) w bs row (k * w + w) (omega arith) (omega arith))
      ∙ drop-take (k * w) w bs)

  record_at-new_above : (k : ℕ) → n < k → record_at w new k ≡ record_at w bs k
  record_at-new_above k l =
      let within = record_in_bytes w (length bs) n h in
      let records : suc n * w ≤ k * w = mul-le-mul_right w l in
      let one_more = suc-mul n w in
      ap (take w) (drop-put_mid (n * w) w bs row (k * w) (omega arith) (omega arith) whole)

  record_at-new_same : record_at w new n ≡ row
  record_at-new_same =
      let within = record_in_bytes w (length bs) n h in
      let width : (n * w + w) - n * w ≡ w = omega arith in
      rw width at (between-put_mid (n * w) w bs row (n * w + w) (omega arith) (omega arith))

  -- the image is then the row with sector n set
  abbrev ss : List Sector
  ss = image_sectors w fmt bs

  length-image_sectors-new : length (image_sectors w fmt new) ≡ length ss
  length-image_sectors-new =
      length-image_sectors w fmt new ∙ (ap (record_count w) length-new ∙ sym (length-image_sectors w fmt bs))

  sector_at-new : (k : ℕ) → k < length ss → sector_at (image_sectors w fmt new) k ≡ fmt.sector_of (record_at w new k)
  sector_at-new k l =
      sector_at-image_sectors w fmt new k (omega (arith, length-image_sectors-new, length-image_sectors w fmt new))

  sector_at-new_other : (k : ℕ) → k < length ss → k ≢ n → record_at w new k ≡ record_at w bs k → sector_at (image_sectors w fmt new) k ≡ sector_at (set ss n (fmt.sector_of row)) k
  sector_at-new_other k l other same =
      sector_at-new k l
      ∙ (ap fmt.sector_of same
      ∙ (sym (sector_at-image_sectors w fmt bs k (omega (arith, length-image_sectors w fmt bs)))
      ∙ sym (get_or-set_other ss n k (fmt.sector_of row) blank other)))

  sector_at-new_same : (k : ℕ) → k < length ss → k ≡ n → sector_at (image_sectors w fmt new) k ≡ sector_at (set ss n (fmt.sector_of row)) k
  sector_at-new_same k l e =
      sector_at-new k l
      ∙ (ap (λ i. fmt.sector_of (record_at w new i)) e
      ∙ (ap fmt.sector_of record_at-new_same
      ∙ (sym (get_or-set_same ss n (fmt.sector_of row) blank (omega (arith, length-image_sectors w fmt bs)))
      ∙ ap (sector_at (set ss n (fmt.sector_of row))) (sym e))))

  pub image_sectors-new : image_sectors w fmt new ≡ set ss n (fmt.sector_of row)
  image_sectors-new =
      ext_get_or blank (image_sectors w fmt new) (set ss n (fmt.sector_of row)) (length-image_sectors-new ∙ sym (length-set ss n (fmt.sector_of row))) (λ k l.
      let lt : k < length ss = omega (arith, length-image_sectors-new) in
      ⊎_elim (sector_at-new_same k lt) (⊎_elim (λ (b : k < n). sector_at-new_other k lt (omega arith) (record_at-new_below k b)) (λ (a : n < k). sector_at-new_other k lt (omega arith) (record_at-new_above k a))) (cases_order k n))

-- the same as the code leaves it, which takes the part of record n and writes it, or lets it be
pub image_sectors-put_mid : (w : ℕ) (fmt : Format) (bs row rec : List ℕ) (n : ℕ) (x : Sector) (r : Option (Unit {0})) → n < record_count w (length bs) → length row ≡ w → OnSome r (fmt.sector_of row ≡ x) → (row ≡ if is_some r then rec else take ((n * w + w) - n * w) (drop (n * w) bs)) → image_sectors w fmt (put_mid (n * w) ((n * w + w) - n * w) bs row) ≡ if is_some r then set (image_sectors w fmt bs) n x else image_sectors w fmt bs
image_sectors-put_mid w fmt bs row rec n x (Some u) h whole means is =
    let width : (n * w + w) - n * w ≡ w = omega arith in
    ap (λ k. image_sectors w fmt (put_mid (n * w) k bs row)) width
    ∙ (image_sectors-new w fmt bs row n h whole ∙ ap (set (image_sectors w fmt bs) n) means)
image_sectors-put_mid w fmt bs row rec n x None h whole means is =
    ap (λ part. image_sectors w fmt (put_mid (n * w) ((n * w + w) - n * w) bs part)) is
    ∙ ap (image_sectors w fmt) (put_mid-between (n * w) ((n * w + w) - n * w) bs)

-- how many sectors an image has
pub ruleset image_lengths = (length-image_sectors)
