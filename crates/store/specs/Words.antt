use Rattle.std.specs.Prelude.{ℕ, List, ◌++◌, codes}
use Rattle.std.specs.Fmt.{decimal}
use Rattle.store.specs.declared.sector_mark.Mark.{Mark}
use Rattle.store.specs.declared.sector_mark.Mark.TheVariants.{Good, Bad}
use Rattle.store.specs.declared.store_fault.StoreFault.{StoreFault}
use Rattle.store.specs.declared.store_fault.StoreFault.TheVariants.{NoSector, BufferLength, DeadSector}
use Rattle.store.specs.Numbers.{fault_number}

-- what is printed of a mark
abbrev pub mark_word : Mark → List ℕ
mark_word Good = codes "good"
mark_word Bad = codes "bad"

-- the cause that is printed of a refusal, with the sector's number
abbrev pub cause_words : StoreFault ℕ → List ℕ
cause_words (NoSector n) = codes ": there is no sector " ++ decimal n
cause_words BufferLength = codes ": the buffer is not as long as a sector"
cause_words (DeadSector n) = codes ": sector " ++ decimal n ++ codes " is dead"

-- what is printed of a refusal: its number, then its cause
abbrev pub fault_words : StoreFault ℕ → List ℕ
fault_words f = decimal (fault_number f) ++ cause_words f
