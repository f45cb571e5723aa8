-- Laws of passes over the table of breaks: a pair, a row, a layer, and all layers from some starts. Assumes nothing.
use Rattle.std.specs.Prelude.{List, ◌≡◌, refl, ℕ, ◌+◌, ◌-◌, ◌≤◌, ◌<◌, get_or}
use Rattle.std.proofs.Common.{inl, inr, ⊎_elim, sym, ◌∙◌, le_trans, arith}
use Rattle.std.proofs.Math.Decide.{ℕ_discrete, dec_lt}
use Rattle.book.specs.Tables.{Tables, tables_of}
use Rattle.book.specs.TablesLaws.{Holds}
use Rattle.book.proofs.TablesLaws.{in-range}
use Rattle.book.specs.declared.Sizes.{Sizes}
use Rattle.walk.specs.Scale.{Scale, unreached}
use Rattle.walk.specs.Claims.{Claims}
use Rattle.layers.specs.ActionLaws.{reduce-below}
use Rattle.layers.specs.CrossingLaws.{within}
use Rattle.layers.specs.Layer.{value_in}
use Rattle.layers.specs.LayerLaws.{value-off}
use Rattle.layers.specs.States.{flag_in, listed_in, Listed}
use Rattle.layers.specs.Step.{TableStep, Upto}
use Rattle.layers.specs.StepLaws.{step-none, step-among, step-as}
use Rattle.lengths.specs.declared.Missing.{Missing}
use Rattle.lengths.specs.Lengths.{LastFailing, LayerEnding, Turn}
use Rattle.lengths.specs.Starts.{Reduces, Led, LayerFrom, Ending}
use Rattle.lengths.specs.StartsLaws.{from-none}

-- other candidates, none of which is less than all of the first
pub step-least-of : {σ : Scale} {P Q : ℕ → ℕ → ℕ → Type 0} {K L : ℕ → ℕ → ℕ} → ((q z w : ℕ) → P q z w → Q q z w)
    → ((q z w : ℕ) → Q q z w → z < 32 → w < unreached σ → (x : ℕ) × P q z x × (x ≤ w)) → TableStep σ P K L → TableStep σ Q K L
step-least-of f g s = record {
  fall = s.fall;
  below = λ q z w p h u. let (x, k, l) = g q z w p h u in le_trans (s.below q z x k h (omega (arith, l, u))) l;
  attained = λ q z h. ⊎_elim inl (λ p. inr (f q z _ p)) (s.attained q z h);
}

-- ---- one pair: it is no such reduction, or not reached, or the cost is stored
module _ {σ : Scale} {missing : Missing} {B : Tables} {m s z v : ℕ} where
  pub turn-none : {K : ℕ → ℕ → ℕ} → (v < unreached σ → ¬ Reduces missing B m s z) → TableStep σ (Turn (LayerEnding σ missing B m (λ q j. v)) s z) K K
  turn-none n = step-none (λ q j w (eq, ej, (r, ew, u)) h l. n (omega arith) (rw (← eq, ← ej) r))

  pub turn-stored : {K L : ℕ → ℕ → ℕ} → v < unreached σ → Reduces missing B m s z → TableStep σ (λ q j w. (q ≡ s) × (j ≡ z) × (w ≡ v)) K L
      → TableStep σ (Turn (LayerEnding σ missing B m (λ q j. v)) s z) K L
  turn-stored u r = step-as (λ q j w (eq, ej, ew). (eq, ej, (rw (eq, ej) r, ew, omega arith))) (λ q j w (eq, ej, (x, ew, l)). (eq, ej, ew))

  -- .. as a layer has it
  pub turn-read : {K L M : ℕ → ℕ → ℕ} → v ≡ M s z → TableStep σ (Turn (LayerEnding σ missing B m (λ q j. v)) s z) K L → TableStep σ (Turn (LayerEnding σ missing B m M) s z) K L
  turn-read e = step-as
      (λ q j w (eq, ej, (r, ew, u)). (eq, ej, (r, rw (eq, ej) (ew ∙ e), u)))
      (λ q j w (eq, ej, (r, ew, u)). (eq, ej, (r, (rw (eq, ej) at ew) ∙ sym e, u)))

module _ {σ : Scale} {d : Sizes} {cells : List ℕ} (h : Holds d cells) where
  -- ---- the states of a layer that are on are all that count
  pub ending-listed : {missing : Missing} {m : ℕ} (values flags : List ℕ) {K L : ℕ → ℕ → ℕ} → Listed d.s flags
      → TableStep σ (Upto (λ i. Upto (Turn (LayerEnding σ missing (tables_of cells) m (value_in σ values flags)) (listed_in flags i)) d.t) (get_or flags 0 0)) K L
      → TableStep σ (LayerEnding σ missing (tables_of cells) m (value_in σ values flags)) K L
  ending-listed {missing} {m} values flags l = step-among (λ q z w (i, hi, (j, hj, (eq, ez, p))). p) (λ q z w p k u. at q z w p (ℕ_discrete (flag_in flags q) 0))
    where
      at : (q z w : ℕ) → LayerEnding σ missing (tables_of cells) m (value_in σ values flags) q z w → Dec (flag_in flags q ≡ 0)
          → Upto (λ i. Upto (Turn (LayerEnding σ missing (tables_of cells) m (value_in σ values flags)) (listed_in flags i)) d.t) (get_or flags 0 0) q z w
      at q z w (r, e, u) (yes o) = absurd (omega (arith, value-off σ values flags q z o))
      at q z w (r, e, u) (no o) =
          let f = l.every q o in
          (f.index, f.before, (z, within h ((in-range h).reduces q z r.production r.action).1, (sym f.same, refl, (r, e, u))))

  module _ {claim : Claims} {missing : Missing} {D : ℕ → ℕ → ℕ} where
    -- ---- a layer after m transitions has the least costs to be led there
    pub ending-layer : {m : ℕ} {M K L : ℕ → ℕ → ℕ} → LayerFrom σ (tables_of cells) claim D m M → TableStep σ (LayerEnding σ missing (tables_of cells) m M) K L
        → TableStep σ (Ending σ (tables_of cells) claim missing D m) K L
    ending-layer {m} {M} k = step-least-of
        (λ q z w (r, e, u). (r, ⊎_elim (λ x. absurd (omega (arith, x))) (λ o. rw e o) (k q z (terminal r)).attained, u))
        (λ q z w (r, o, u) hz l. let x = (k q z (terminal r)).below w o in (M q z, (r, refl, omega (arith, x)), x))
      where
        terminal : {q z : ℕ} → Reduces missing (tables_of cells) m q z → z < (tables_of cells).terminals
        terminal {q} {z} r = ((in-range h).reduces q z r.production r.action).1

    -- ---- the layers that were made are all that count ..
    ending-all : {i : ℕ} {K L : ℕ → ℕ → ℕ} → ((m s z w : ℕ) → Ending σ (tables_of cells) claim missing D m s z w → m < i)
        → TableStep σ (Upto (Ending σ (tables_of cells) claim missing D) i) K L → TableStep σ (λ s z w. (m : ℕ) × Ending σ (tables_of cells) claim missing D m s z w) K L
    ending-all f = step-as (λ s z w (m, hm, x). (m, x)) (λ s z w (m, x). (m, f m s z w x, x))

    -- .. if they go up to the last after which a production breaks so, ..
    pub ending-last : {last : ℕ} {K L : ℕ → ℕ → ℕ} → LastFailing missing (tables_of cells) d.p last
        → TableStep σ (Upto (Ending σ (tables_of cells) claim missing D) (last + 1)) K L → TableStep σ (λ s z w. (m : ℕ) × Ending σ (tables_of cells) claim missing D m s z w) K L
    ending-last l = ending-all (λ m s z w (r, o, u). omega (arith, l.bound r.production m (reduce-below s z h refl r.action) r.fails))

    -- .. or to one in which nothing is on
    pub ending-empty : {i : ℕ} {M K L : ℕ → ℕ → ℕ} → LayerFrom σ (tables_of cells) claim D i M → ((q z : ℕ) → M q z ≡ unreached σ)
        → TableStep σ (Upto (Ending σ (tables_of cells) claim missing D) i) K L → TableStep σ (λ s z w. (m : ℕ) × Ending σ (tables_of cells) claim missing D m s z w) K L
    ending-empty {i} k e = ending-all (λ m s z w (r, o, u). go m s z w o u (dec_lt m i))
      where
        go : (m s z w : ℕ) → Led σ (tables_of cells) claim D m s z w → w < unreached σ → Dec (m < i) → m < i
        go m s z w o u (yes l) = l
        go m s z w o u (no l) = let same : m ≡ i + (m - i) = omega arith in absurd (omega (arith, from-none k e (m - i) (rw same at o)))
