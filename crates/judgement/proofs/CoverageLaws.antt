-- Laws of the states without an entry: what the costs decide, and the lowest. Assumes nothing.
use Rattle.std.specs.Prelude.{Bool, ◌||◌, List, ◌≡◌}
use Rattle.std.proofs.Math.Bool.{true, false}
use Rattle.std.proofs.lemmas.Bool.{false≢true}
use Rattle.std.proofs.Math.Path.{refl}
use Rattle.std.proofs.Common.{sym, ◌∙◌, ap}
use Prim.Native.Nat.{ℕ, zero, suc, ◌+◌, ◌-◌, ◌≤◌, ◌<◌}
use Rattle.std.proofs.Math.Decide.{ℕ_discrete}
use native.Mathlib.Omega.{arith}
use Rattle.book.specs.Tables.{tables_of}
use Rattle.book.specs.TablesLaws.{Holds}
use Rattle.book.specs.declared.Sizes.{Sizes}
use Rattle.walk.specs.Scale.{plain}
use Rattle.layers.specs.CrossingLaws.{terminals-are, states-are}
use Rattle.distances.specs.Distances.{StartTable}
use Rattle.failing.specs.FailingLaws.{fails-decides}
use Rattle.failing.specs.Tests.{fails_in}
use Rattle.lengths.specs.Lengths.{BreakTable}
use Rattle.course.specs.declared.Judgement.{Judgement}
use Rattle.judgement.specs.Coverage.{some, state_fails, lacks_in, Covered}
use Rattle.judgement.specs.Judgement.{DecidesFails, lowest_state}

-- ---- some number of a range
module _ (holds : ℕ → Bool) where
  some-true : (k z : ℕ) → some holds k z ≡ true → (i : ℕ) × (i < z + k) × (holds i ≡ true)
  unfolding some
  some-true zero z e = absurd (false≢true e)
  some-true (suc k) z e = go (holds z) refl e (λ f. some-true k (suc z) f)
    where
      go : (b : Bool) → holds z ≡ b → (b || some holds k (suc z)) ≡ true
          → (some holds k (suc z) ≡ true → (i : ℕ) × (i < suc z + k) × (holds i ≡ true)) → (i : ℕ) × (i < z + suc k) × (holds i ≡ true)
      go true f g later = (z, omega arith, f)
      go false f g later = let (i, h, t) = later g in (i, omega arith, t)

  true-some : (k z i : ℕ) → z ≤ i → i < z + k → holds i ≡ true → some holds k z ≡ true
  unfolding some
  true-some zero z i l h e = absurd (omega arith)
  true-some (suc k) z i l h e = go (holds z) refl (ℕ_discrete i z) (λ m. true-some k (suc z) i m (omega arith) e)
    where
      go : (b : Bool) → holds z ≡ b → Dec (i ≡ z) → (suc z ≤ i → some holds k (suc z) ≡ true) → (b || some holds k (suc z)) ≡ true
      go true f d later = refl
      go false f (yes same) later = absurd (false≢true (sym f ∙ rw same at e))
      go false f (no other) later = later (omega arith)

  -- at number z of k, as a loop has it
  pub some-here : (k z : ℕ) → z < k → holds z ≡ true → some holds (k - z) z ≡ true
  unfolding some
  some-here k z h e = let step : k - z ≡ suc (k - (z + 1)) = omega arith in rw (step, e)

  pub some-on : (k z : ℕ) → z < k → holds z ≡ false → some holds (k - z) z ≡ some holds (k - (z + 1)) (z + 1)
  unfolding some
  some-on k z h e =
      let step : k - z ≡ suc (k - (z + 1)) = omega arith in
      let next : suc z ≡ z + 1 = omega arith in
      rw (step, e, next)

  pub some-done : (k z : ℕ) → k ≤ z → some holds (k - z) z ≡ false
  unfolding some
  some-done k z h = let none : k - z ≡ 0 = omega arith in rw none

-- ---- what the costs decide
module _ {d : Sizes} {cells dist broken : List ℕ} (h : Holds d cells) (x : StartTable plain d cells dist) (y : BreakTable plain d cells broken) where
  pub start-decides : DecidesFails (tables_of cells) (state_fails cells dist broken d.t)
  start-decides s hs = (
    λ e.
        let (z, hz, f) = some-true (fails_in cells dist broken s) d.t 0 e in
        (z, (fails-decides h s z (rw (states-are h) at hs) (omega arith) x y).0 f),
    λ (z, p).
        let hz : z < d.t = rw (terminals-are h) at p.terminal in
        true-some (fails_in cells dist broken s) d.t 0 z (omega arith) (omega arith) ((fails-decides h s z (rw (states-are h) at hs) hz x y).1 p),
  )

  pub start-covered : {places : List ℕ} {j : Judgement} → j ≡ lowest_state (lacks_in (state_fails cells dist broken d.t) places) d.s 0 → Covered (tables_of cells) places j
  start-covered {places} e = record {
    fails = state_fails cells dist broken d.t;
    decides = start-decides;
    told = e ∙ ap (λ (k : ℕ). lowest_state (lacks_in (state_fails cells dist broken d.t) places) k 0) (sym (states-are h));
  }
