use Rattle.std.proofs.Common.{◌≡◌, ℕ, ◌<◌, Bool, if◌then◌else◌, List, [], ◌∷◌, ◌++◌, length, take, drop, set, refl, Some, ap, subst, ◌∙◌, ◌==◌, arith}
use Rattle.std.specs.Int.{from_be_bytes, to_be_bytes, w32}
use borrow.Rule.Slice.PartMut.{put_mid}
use Rattle.std.proofs.lemmas.List.{take_at, drop_at, drop-drop, drop_all, append-nil}
use Rattle.std.proofs.lemmas.Bool.{eq-eqb}
use Rattle.std.proofs.lemmas.Nat.{from_be_bytes-to_be_bytes_4}
use Rattle.store.specs.declared.sector_mark.Mark.TheVariants.{Good, Bad}
use Rattle.store.specs.CheckedRecord.{checked_sector, checksum, good_record, layout}
use Rattle.store.specs.Sector.{Sector, good_sector}

-- a record into which the state, the data and the sum were put, one after the other
pub put_mid-put_mid-set : (xs d t : List ℕ) → length xs ≡ 1029 → length d ≡ 1024 → length t ≡ 4 → put_mid 1025 4 (put_mid 1 1024 (set xs 0 0) d) t ≡ 0 ∷ (d ++ t)
put_mid-put_mid-set [] d t hx hd ht = absurd (omega arith)
put_mid-put_mid-set (x ∷ xs) d t hx hd ht =
    let content : take 1024 (d ++ drop 1024 xs) ≡ d = take_at d (drop 1024 xs) 1024 hd in
    let rest : drop 1024 (d ++ drop 1024 xs) ≡ drop 1024 xs = drop_at d (drop 1024 xs) 1024 hd in
    let no_more : drop 4 (drop 1024 xs) ≡ [] = drop-drop 4 1024 xs ∙ drop_all 1028 xs (omega arith) in
    ap (λ l. 0 ∷ l) (ap (λ l. l ++ (t ++ drop 4 (drop 1024 (d ++ drop 1024 xs)))) content ∙ ap (λ l. d ++ (t ++ l)) (ap (drop 4) rest ∙ no_more) ∙ ap (λ l. d ++ l) (append-nil t))

-- what `lay_out` leaves
pub put_mid-layout : (xs d t c : List ℕ) (s : ℕ) → length xs ≡ 1029 → length c ≡ 1024 → d ≡ c → t ≡ to_be_bytes w32 s → put_mid 1025 4 (put_mid 1 1024 (set xs 0 0) d) t ≡ layout c s
unfolding layout
put_mid-layout xs d t c s hx hc ed et =
    put_mid-put_mid-set xs d t hx (ap length ed ∙ hc) (ap length et) ∙ ap (λ l. 0 ∷ l) (ap (λ l. l ++ t) ed ∙ ap (λ l. c ++ l) et)

abbrev judged : List ℕ → Bool → Sector
judged d equal = record { bytes = d; mark = Some (if equal then Good else Bad) }

-- the record of a good sector, whose sum fits its four bytes, is read as that sector
pub checked_sector-good_record : (c : List ℕ) → length c ≡ 1024 → checksum c < 4294967296 → checked_sector (good_record c) ≡ good_sector c
unfolding layout
checked_sector-good_record c h b =
    let t = to_be_bytes w32 (checksum c) in
    ap (λ d. judged d (checksum d == from_be_bytes w32 (drop 1024 (c ++ t)))) (take_at c t 1024 h)
    ∙ (ap (λ d. judged c (checksum c == from_be_bytes w32 d)) (drop_at c t 1024 h)
    ∙ (ap (λ v. judged c (checksum c == v)) (from_be_bytes-to_be_bytes_4 (checksum c) b)
    ∙ ap (judged c) (eq-eqb (checksum c) (checksum c) refl)))

-- the same of a record as the code makes it
pub checked_sector-layout : (r c : List ℕ) (sum : ℕ) → r ≡ layout c sum → sum ≡ checksum c → length c ≡ 1024 → sum < 4294967296 → checked_sector r ≡ good_sector c
checked_sector-layout r c sum laid summed h b =
    ap checked_sector (laid ∙ ap (layout c) summed) ∙ checked_sector-good_record c h (subst (λ (n : ℕ). n < 4294967296) summed b)

pub ruleset records_read = (checked_sector-layout)

pub drop-good_record : (c : List ℕ) → length c ≡ 1024 → drop 1025 (good_record c) ≡ to_be_bytes w32 (checksum c)
unfolding layout
drop-good_record c h = drop_at c (to_be_bytes w32 (checksum c)) 1024 h
