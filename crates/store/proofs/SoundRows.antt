use Rattle.std.proofs.Common.{◌≡◌, ℕ, ◌*◌, ◌<◌, List, length, All, sym, subst, arith}
use Rattle.std.proofs.lemmas.List.Elements.{All-drop, All-from_get_or, All-take}
use Rattle.store.specs.Images.{image_sectors, record_at, record_count}
use Rattle.store.specs.RecordFormat.{Format}
use Rattle.store.specs.Sector.{Sector, blank}
use Rattle.store.specs.Sound.{IsBytes, IsSound}
use Rattle.store.proofs.ImageRows.{length-image_sectors, length-record_at, record_count-le, sector_at-image_sectors}

module _ (w : ℕ) (fmt : Format) (bs : List ℕ) where
  -- what holds of every record's sector holds of the whole row
  All-image_sectors : (P : Sector → Type 0) → ((n : ℕ) → length (record_at w bs n) ≡ w → P (fmt.sector_of (record_at w bs n))) → All P (image_sectors w fmt bs)
  All-image_sectors P each =
      All-from_get_or P (image_sectors w fmt bs) blank (λ n l.
      let counted : n < record_count w (length bs) = omega (arith, length-image_sectors w fmt bs) in
      subst P (sym (sector_at-image_sectors w fmt bs n counted)) (each n (length-record_at w bs n counted)))

  -- a format that reads each record as a whole sector of bytes
  pub IsSound-image_sectors : ((r : List ℕ) → length r ≡ w → length (fmt.sector_of r).bytes ≡ 1024) → ((r : List ℕ) → IsBytes r → IsBytes (fmt.sector_of r).bytes) → IsBytes bs → IsSound (image_sectors w fmt bs)
  IsSound-image_sectors whole bytes all =
      record {
        few = omega (arith, record_count-le w (length bs), length-image_sectors w fmt bs);
        whole = All-image_sectors (λ s. length s.bytes ≡ 1024) (λ n e. whole (record_at w bs n) e);
        bytes = All-image_sectors (λ s. IsBytes s.bytes) (λ n e. bytes (record_at w bs n) (All-take (λ x. x < 256) w _ (All-drop (λ x. x < 256) (n * w) bs all)));
      }
