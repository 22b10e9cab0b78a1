use Rattle.std.specs.Prelude.{ℕ, ◌-◌, if◌then◌else◌, List, length, Some, None, Option, nat_lt, slice_index, slice_set}

-- the byte that stands there, and the memory with it inverted; past the end there is neither
abbrev pub byte_at : List ℕ → ℕ → Option ℕ
byte_at m at = if nat_lt at (length m) then Some (slice_index m at) else None

abbrev pub with_byte_inverted : List ℕ → ℕ → List ℕ
with_byte_inverted m at = if nat_lt at (length m) then slice_set m at (255 - slice_index m at) else m
