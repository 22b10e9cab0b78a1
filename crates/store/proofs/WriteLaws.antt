use Rattle.std.proofs.Common.{◌≡◌, ℕ, List, length, set, Ok, Err, Result, refl, arith}
use Rattle.std.proofs.lemmas.Bool.Decides.{nat_tests}
use Rattle.std.proofs.lemmas.Grind.{common_steps}
use Rattle.std.proofs.lemmas.List.{length-set}
use Rattle.std.proofs.lemmas.List.Elements.{All-set}
use Rattle.store.specs.declared.sector_mark.Mark.{Mark}
use Rattle.store.specs.declared.store_fault.StoreFault.{StoreFault}
use Rattle.store.specs.Access.{access, if_taken}
use Rattle.store.specs.Sector.{Sector, good_sector}
use Rattle.store.specs.Sound.{IsBytes, IsSound}
use Rattle.store.specs.WriteLaw.{WriteLaw}

-- the row after a write that was taken up, or refused
IsSound-if_taken : (ss : List Sector) (n : ℕ) (b : List ℕ) (r : Result Mark (StoreFault ℕ)) → access ss n (length b) ≡ r → IsSound ss → IsBytes b → IsSound (if_taken r (set ss n (good_sector b)) ss)
IsSound-if_taken ss n b (Ok m) taken sound bytes =
    let whole : length b ≡ 1024 = grind (arith, nat_tests) in
    record {
      few = omega (arith, sound.few, length-set ss n (good_sector b));
      whole = All-set (λ s. length s.bytes ≡ 1024) ss n (good_sector b) whole sound.whole;
      bytes = All-set (λ s. IsBytes s.bytes) ss n (good_sector b) bytes sound.bytes;
    }
IsSound-if_taken ss n b (Err f) refused sound bytes = sound

-- in every row and at every number
pub write_law : {W : Type 0} (named : ℕ → W) (ss : List Sector) (n : ℕ) (b : List ℕ) → WriteLaw named ss n b
write_law named ss n b =
    record {
      marks = λ done old e. grind (arith, common_steps);
      returns = λ done old e. grind (arith, common_steps);
      refused = λ f e. grind (arith, common_steps);
      keeps_size = grind (arith, common_steps);
      keeps_marks = λ k other old. grind (arith, common_steps);
      keeps_bytes = λ k other old. grind (arith, common_steps);
      stays_sound = IsSound-if_taken ss n b (access ss n (length b)) refl;
    }
