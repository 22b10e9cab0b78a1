use Rattle.std.specs.Prelude.{ℕ, ◌-◌, List, ◌++◌, length, replicate}

-- a part of a record, and zeros up to a sector's length
abbrev pub padded_part : List ℕ → List ℕ
padded_part part = part ++ replicate (1024 - length part) 0
