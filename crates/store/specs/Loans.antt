use Rattle.std.specs.Prelude.{ℕ}

-- the lent memory that a store stands on, by the ghost names of the references to it
pub data Loans : Type 0 where
  none : Loans
  loan : ℕ → Loans → Loans
