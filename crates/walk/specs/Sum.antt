-- Costs as tables hold them: what a shift adds, capped sums, and what is above a bound. Assumes nothing.
use Rattle.std.specs.Prelude.{cond, ℕ, ◌+◌, min, ltb, leb}
use Rattle.walk.specs.Scale.{Scale, weight, long, unreached, cap}

-- what a shift adds to a cost
abbrev pub shift_cost : Scale → ℕ → ℕ
shift_cost σ t = cap σ (weight σ t)

-- the sum of two costs; unreached and anything is unreached
unfoldable pub plus : Scale → ℕ → ℕ → ℕ
plus σ x y = cond (ltb x (unreached σ)) (cond (ltb y (unreached σ)) (min (x + y) (long σ)) (unreached σ)) (unreached σ)

-- a cost above a bound counts as unreached
unfoldable pub cut : Scale → ℕ → ℕ → ℕ
cut σ bound v = cond (leb v bound) v (unreached σ)
