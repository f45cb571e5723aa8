-- Laws of the least cost from the start: one layer and one terminal more, and that it is the cost to go over an empty rest of the stack. Assumes nothing.
use Rattle.std.specs.Prelude.{List, [], ◌≡◌, get_or}
use Rattle.std.proofs.Math.Path.{refl}
use Rattle.std.proofs.Common.{sym, ◌∙◌, add-one}
use Prim.Native.Nat.{ℕ, zero, suc, ◌+◌, ◌*◌, ◌-◌, ◌≤◌, ◌<◌, min}
use Rattle.std.proofs.Math.Decide.{ℕ_discrete, dec_lt}
use native.Mathlib.Omega.{arith}
use Rattle.std.proofs.Math.Seq.{drop-nil}
use Rattle.book.specs.Tables.{Tables}
use Rattle.walk.specs.Ends.{to_go, end_cost}
use Rattle.layers.specs.Layer.{entry_in, layer_in}
use Rattle.approach.specs.Shortest.{least_over, Lowest}

module _ (togo due : List ℕ) (a : ℕ) where
  pub over_none : get_or togo a 0 ≡ least_over togo due 0 a
  unfolding least_over entry_in
  over_none = let e : 0 * 32 + a ≡ a = omega arith in rw e

  pub over-more : (m : ℕ) → min (get_or due (m * 4096 + a) 0) (least_over togo due m a) ≡ least_over togo due (m + 1) a
  unfolding least_over
  over-more m = let e : 0 * 32 + a ≡ a = omega arith in rw (add-one, e)

  -- over an empty rest every reduction breaks
  over-to-go : (B : Tables) (X n m : ℕ) → to_go B X n (entry_in togo) (layer_in due) m [] 0 a ≡ least_over togo due m a
  unfolding least_over to_go
  over-to-go B X n zero = refl
  over-to-go B X n (suc m) = rw (drop-nil {A = ℕ} (n - suc m), over-to-go B X n m)

-- one terminal more
module _ {E : ℕ → ℕ} where
  pub lowest-one : {r : ℕ} → r ≡ E 0 → Lowest E 1 r
  lowest-one e = record { below = λ a h. let i : a ≡ 0 = omega arith in rw i (omega arith); attained = (0, omega arith, e) }

  pub lowest-more : {t r v w : ℕ} → Lowest E t r → v ≡ E t → w ≡ min r v → Lowest E (t + 1) w
  lowest-more {t} {r} {v} {w} l e m = record { below = λ a h. below a h (ℕ_discrete a t); attained = pick (dec_lt r v) }
    where
      below : (a : ℕ) → a < t + 1 → Dec (a ≡ t) → w ≤ E a
      below a h (yes i) = rw i (omega arith)
      below a h (no i) = omega (arith, l.below a (omega arith))

      pick : Dec (r < v) → (a : ℕ) × (a < t + 1) × (w ≡ E a)
      pick (yes h) = let (a, i, j) = l.attained in (a, omega arith, omega arith)
      pick (no h) = (t, omega arith, omega arith)

-- so it is the least cost to go from the start, in any book and for any left side
pub shortest-ends : (B : Tables) (X len : ℕ) (togo due : List ℕ) {t r : ℕ} → Lowest (least_over togo due len) t r → Lowest (end_cost B X len (entry_in togo) (layer_in due) [] 0) t r
shortest-ends B X len togo due l =
    let (a, h, e) = l.attained in
    record { below = λ b k. rw (over-to-go togo due b B X len len) (l.below b k); attained = (a, h, e ∙ sym (over-to-go togo due a B X len len)) }

-- .. and with no layers of the costs to go alone
pub shortest-none : (togo due : List ℕ) {t r : ℕ} → Lowest (least_over togo due 0) t r → Lowest (entry_in togo 0) t r
unfolding least_over
shortest-none togo due l = l
