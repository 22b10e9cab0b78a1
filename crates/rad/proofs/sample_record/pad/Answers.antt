use Rattle.std.proofs.Common.{◌≡◌, ℕ, ◌-◌, List, ◌++◌, length, drop, replicate}
use native.Mathlib.Nat.{sub-zero}
use Rattle.std.proofs.lemmas.List.{drop-replicate}
use Rattle.rad.proofs.sample_record.pad.Goals as goal

-- at any length, since 1,024 zeros would be written out
front : (n k : ℕ) (ys zs : List ℕ) → ys ≡ zs → ys ++ drop (k - 0) (replicate n 0) ≡ zs ++ replicate (n - k) 0
front n k ys zs e = simp (e, sub-zero, drop-replicate)

pub returns : goal.returns
returns c = front 1024 (length c.args.part.now) c.copy_from_slice.new.self c.args.part.now c.copy_from_slice.ensures.after
