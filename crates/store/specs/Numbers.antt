use Rattle.std.specs.Prelude.{ℕ}
use Rattle.store.specs.declared.store_fault.StoreFault.{StoreFault}
use Rattle.store.specs.declared.store_fault.StoreFault.TheVariants.{NoSector, BufferLength, DeadSector}

-- the number of each refusal of a store
abbrev pub fault_number : {W : Type 0} → StoreFault W → ℕ
fault_number (NoSector w) = 50
fault_number BufferLength = 51
fault_number (DeadSector w) = 52

-- the number under which an image is refused
abbrev pub unfit_number : ℕ
unfit_number = 53
