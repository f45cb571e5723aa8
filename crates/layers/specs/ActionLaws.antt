-- Laws of actions: which production a reduction names, and where no walk begins. Assumes nothing.
use Rattle.std.specs.Prelude.{true, List, ◌≡◌, ℕ, ◌<◌}
use Rattle.std.proofs.Common.{sym, ◌∙◌, arith, ltb-true}
use Rattle.book.specs.Range.{allowed}
use Rattle.book.specs.Tables.{Tables, tables_of}
use Rattle.book.specs.TablesLaws.{Holds}
use Rattle.book.proofs.TablesLaws.{act-some, in-range}
use Rattle.book.specs.declared.Action.{Action}
use Rattle.book.specs.declared.Action.TheVariants.{Error, Accept, Shift, Reduce}
use Rattle.book.specs.declared.Sizes.{Sizes}
use Rattle.machine.specs.MachineLaws.{clash}
use Rattle.walk.specs.WalkLaws.{Opens, shifts, empties}

reduce-allowed : (d : Sizes) (a p : ℕ) → allowed d a (Reduce p) ≡ true → p < d.p
unfolding allowed
reduce-allowed d a p e = ltb-true p d.p e

-- what is read as an action names a production or a state of the book
module _ {d : Sizes} {cells : List ℕ} (q a : ℕ) {x : Action} (h : Holds d cells) (same : x ≡ (tables_of cells).act q a) where
  pub reduce-below : {p : ℕ} → x ≡ Reduce p → p < d.p
  reduce-below {p} e =
      let (lq, la, ok) = act-some h q a (Reduce p) (sym same ∙ e) (λ z. clash cc) in
      reduce-allowed d a p ok

  pub shift-below : {s : ℕ} → x ≡ Shift s → (s < d.s) × (s < 128)
  unfolding tables_of
  shift-below {s} e =
      let l : s < d.s = rw (← h.sizes) at ((in-range h).shifts q a s (sym same ∙ e)).3 in
      (l, omega (arith, h.small.states))

module _ (B : Tables) (q a : ℕ) {x : Action} (same : x ≡ B.act q a) where
  pub error-unopened : x ≡ Error → ¬ Opens B q a
  error-unopened e (shifts f) = clash cc
  error-unopened e (empties f l) = clash cc

  pub accept-unopened : x ≡ Accept → ¬ Opens B q a
  accept-unopened e (shifts f) = clash cc
  accept-unopened e (empties f l) = clash cc

  pub reduce-unopened : {p : ℕ} → x ≡ Reduce p → ¬ (B.len p ≡ 0) → ¬ Opens B q a
  reduce-unopened e n (shifts f) = clash cc
  reduce-unopened {p} e n (empties {p = p'} f l) = let i : p' ≡ p = cc in n (rw i at l)

-- only a shift shifts
module _ {x y : Action} (same : x ≡ y) where
  pub error-shiftless : x ≡ Error → (s : ℕ) → y ≡ Shift s → ⊥
  error-shiftless e s f = clash cc

  pub accept-shiftless : x ≡ Accept → (s : ℕ) → y ≡ Shift s → ⊥
  accept-shiftless e s f = clash cc

  pub reduce-shiftless : {p : ℕ} → x ≡ Reduce p → (s : ℕ) → y ≡ Shift s → ⊥
  reduce-shiftless e s f = clash cc
