-- Laws of sums. Assumes nothing.
use Rattle.std.specs.Prelude.{List, [], ◌∷◌, ◌≡◌, refl, ℕ, zero, suc, ◌+◌, ◌≤◌, ◌<◌, length, get_or, set}
use Rattle.std.proofs.Common.{not-suc-le-zero, le_of_suc-le-suc, arith}
use Rattle.layers.specs.Total.{total}

-- a store changes the sum by what it changes the cell
pub total-set : (l : List ℕ) (k v : ℕ) → k < length l → total (set l k v) + get_or l k 0 ≡ total l + v
unfolding total
total-set [] k v h = absurd (not-suc-le-zero h)
total-set (x ∷ l) zero v h = omega arith
total-set (x ∷ l) (suc k) v h = omega (arith, total-set l k v (le_of_suc-le-suc h))

-- a sum of zeros, and of cells that are 1 at most
pub total-none : (l : List ℕ) → ((k : ℕ) → get_or l k 0 ≡ 0) → total l ≡ 0
unfolding total
total-none [] h = refl
total-none (x ∷ l) h = omega (arith, h zero, total-none l (λ k. h (suc k)))

pub total-most : (l : List ℕ) → ((k : ℕ) → get_or l k 0 ≤ 1) → total l ≤ length l
unfolding total
total-most [] h = omega arith
total-most (x ∷ l) h = omega (arith, h zero, total-most l (λ k. h (suc k)))
