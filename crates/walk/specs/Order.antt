-- The order of words. Assumes nothing.
use Rattle.std.specs.Prelude.{List, ◌∷◌, ◌⊎◌, ◌≡◌, ℕ, ◌<◌}
use Rattle.walk.specs.{Scale.Scale, Cost.cost}

-- 'Of two different sequences of equal length, the one with the smaller terminal number at the first difference is earlier in order'; here of
-- any two, and by the ranks of the terminals
pub data Earlier (rank : ℕ → ℕ) : List ℕ → List ℕ → Type 0 where
  parts : {a b : ℕ} {v w : List ℕ} → rank a < rank b → Earlier rank (a ∷ v) (b ∷ w)
  shares : {a : ℕ} {v w : List ℕ} → Earlier rank v w → Earlier rank (a ∷ v) (a ∷ w)

-- 'of the shortest .. the earliest in order': v comes before w if it costs less, or as much and is earlier
abbrev pub Better : Scale → (ℕ → ℕ) → List ℕ → List ℕ → Type 0
Better σ rank v w = (cost σ v < cost σ w) ⊎ ((cost σ v ≡ cost σ w) × Earlier rank v w)
