-- The lowest number of a set, and searches that lower a number at hand. Assumes nothing.
use Rattle.std.specs.Prelude.{◌⊎◌, ◌≡◌, ℕ, ◌≤◌, ◌<◌}

-- i is the lowest number in P, or the top where there is none
pub record Lowest (P : ℕ → Type 0) (top i : ℕ) : Type 0 where
  pub below : (j : ℕ) → P j → i ≤ j
  pub attained : (i ≡ top) ⊎ P i

-- .. where the top is a number at hand, which only falls
pub record Lowered (P : ℕ → Type 0) (top i : ℕ) : Type 0 where
  pub fall : i ≤ top
  pub lowest : Lowest P top i

-- i is in P j for some j below n
abbrev pub Among : ℕ → (ℕ → ℕ → Type 0) → ℕ → Type 0
Among n P i = (j : ℕ) × (j < n) × P j i
