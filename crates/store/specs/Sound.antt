use Rattle.std.specs.Prelude.{ℕ, ◌<◌, ◌≤◌, ◌≡◌, List, length, All}
use Rattle.store.specs.Sector.{Sector}

-- each number in the list is a byte
abbrev pub IsBytes : List ℕ → Type 0
IsBytes b = All (λ x. x < 256) b

-- what holds of the row of every store
pub record IsSound (ss : List Sector) : Type 0 where
  pub few : length ss ≤ 4294967295
  pub whole : All (λ s. length s.bytes ≡ 1024) ss
  pub bytes : All (λ s. IsBytes s.bytes) ss
