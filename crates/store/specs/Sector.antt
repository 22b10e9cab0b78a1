use Rattle.std.specs.Prelude.{ℕ, List, [], Some, None, Option, slice_index_or}
use Rattle.store.specs.declared.sector_mark.Mark.{Mark}
use Rattle.store.specs.declared.sector_mark.Mark.TheVariants.{Good}

-- a sector is in use under its mark, or dead, and then it has none
pub record Sector : Type 0 where
  pub bytes : List ℕ
  pub mark : Option Mark

-- what a write leaves
abbrev pub good_sector : List ℕ → Sector
good_sector b = record { bytes = b; mark = Some Good }

-- what stands past the end of every row
abbrev pub blank : Sector
blank = record { bytes = []; mark = None }

abbrev pub sector_at : List Sector → ℕ → Sector
sector_at ss n = slice_index_or ss n blank
