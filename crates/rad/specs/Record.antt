use Rattle.std.specs.Prelude.{◌≡◌, ℕ, ◌%◌, ◌<◌, List, slice_index}

-- the bytes of the record: byte k is k reduced by 256
abbrev pub CountsUp : List ℕ → Type 0
CountsUp r = (k : ℕ) → k < 1500 → slice_index r k ≡ k % 256
