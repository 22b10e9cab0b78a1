use Rattle.std.specs.Prelude.{ℕ}
use Rattle.drive.specs.declared.drive_shape.Shape.{Shape}
use Rattle.drive.specs.declared.place.Place.{Place}

-- What a drive model is: its counts, and how its places are numbered.
-- The numbering matters only inside the unit: elsewhere `number` and `place` may give anything.
pub record Geometry : Type 0 where
  pub shape : Shape
  pub number : Place → ℕ
  pub place : ℕ → Place
