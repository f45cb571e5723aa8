-- Laws of `lengthen`: rows that may be terminals out, and that passes over every state make the longer layer. Assumes nothing.
use Rattle.std.specs.Prelude.{List, ◌⊎◌, ◌≡◌, refl, ℕ, suc, ◌+◌, ◌≤◌, ◌<◌, replicate}
use Rattle.std.proofs.Math.Logic.{inl, inr, ⊎_elim}
use Rattle.std.proofs.Common.{◌∙◌, arith}
use Rattle.std.proofs.Math.Decide.{ℕ_discrete, dec_lt}
use Rattle.std.proofs.Math.ListN.{get_or}
use Rattle.std.proofs.lemmas.List.{get_or-replicate}
use Rattle.book.specs.Tables.{Tables, tables_of}
use Rattle.book.specs.TablesLaws.{Holds}
use Rattle.book.proofs.TablesLaws.{in-range, goto-some}
use Rattle.book.specs.declared.Action.{Action}
use Rattle.book.specs.declared.Action.TheVariants.{Shift}
use Rattle.book.specs.declared.Sizes.{Sizes}
use Rattle.walk.specs.Scale.{Scale, unreached}
use Rattle.walk.proofs.CostLaws.{plus-far-left, plus-far-right, cut-unreached, cut-within, cut-beyond}
use Rattle.walk.specs.Claims.{Claims}
use Rattle.walk.specs.Layers.{Longer, add-shift, add-goto, cut_at}
use Rattle.walk.specs.Sum.{shift_cost}
use Rattle.layers.specs.Layer.{entry_in, value_in, Wanted, Lengthened, LengthenedTo}
use Rattle.layers.specs.LayerLaws.{TurnedOn, value-off, value_read}
use Rattle.layers.specs.Leaving.{TerminalsListed}
use Rattle.layers.specs.States.{flag_in, listed_in, Listed}
use Rattle.layers.specs.Crossing.{crossing_row, claim_in}
use Rattle.layers.specs.CrossingLaws.{terminals-are, states-are, crossing-split}
use Rattle.layers.specs.Opening.{row_in, Skips}
use Rattle.layers.specs.Starts.{layer_row, crossing_block}
use Rattle.layers.specs.Step.{TableStep, Upto, Level, Shifts, Leaves, LeavesState, RelaxedBy, ShiftsBy, EntersBy, GotosBy}
use Rattle.layers.specs.StepLaws.{step-among, step-as, step-join, step-on, step_from, step-listed}

module _ (σ : Scale) (d : Sizes) (want : List ℕ) (B : Tables) (claim : Claims) where
  -- from an unreached entry nothing is reached
  leaves-far : (q₁ b v q z w : ℕ) → unreached σ ≤ v → Leaves σ d want B claim q₁ b v q z w → w < unreached σ → ⊥
  leaves-far q₁ b v q z w h x u = ⊎_elim
      (λ s. omega (arith, s.2, plus-far-left σ v (shift_cost σ b) h))
      (λ g. omega (arith, g.2.2, plus-far-left σ v (claim q₁ g.0 b z) h))
      x

  -- nor from a state that is off, so that a pass by the list of the states that are on is one over every state
  pub leaves-listed : {K L : ℕ → ℕ → ℕ} (bound : ℕ) (from on : List ℕ) → Listed d.s on
      → TableStep σ (Upto (λ i. LeavesState σ d want B claim (cut_at σ bound (value_in σ from on)) (listed_in on i)) (get_or on 0 0)) K L
      → TableStep σ (Upto (LeavesState σ d want B claim (cut_at σ bound (value_in σ from on))) d.s) K L
  leaves-listed bound from on l = step-listed (listed_in on) l.below (λ j q z w hj (b, hb, x) h u. at (ℕ_discrete (flag_in on j) 0) b x u)
    where
      at : {j q z w : ℕ} → Dec (flag_in on j ≡ 0) → (b : ℕ) → Leaves σ d want B claim j b (cut_at σ bound (value_in σ from on) j b) q z w → w < unreached σ → (i : ℕ) × (i < get_or on 0 0) × (listed_in on i ≡ j)
      at {j} {q} {z} {w} (yes e) b x u = absurd (leaves-far j b _ q z w (rw (value-off σ from on j b e, cut-unreached σ bound) (omega arith)) x u)
      at {j} (no n) b x u = let f = l.every j n in (f.index, f.before, f.same)

module _ {σ : Scale} {d : Sizes} {cells want : List ℕ} (h : Holds d cells) where
  -- nor from a row that can be passed over
  leaves-skipped : {claim : Claims} {rows : List ℕ} (q₁ b v q z w : ℕ) → Skips σ (tables_of cells) claim rows → row_in rows q₁ b ≡ 0 → b < d.t
      → Leaves σ d want (tables_of cells) claim q₁ b v q z w → w < unreached σ → ⊥
  leaves-skipped {claim} q₁ b v q z w k o hb x u = ⊎_elim
      (λ (e, hz, ew, on). k.shiftless o e)
      (λ (X, hX, (g, hz, ew, on)). omega (arith, ew, plus-far-right σ v (claim q₁ X b z) (omega (arith, k.unclaimed {z = z} o (rw (terminals-are h) hb) (rw (terminals-are h) hz) g))))
      x

  -- so that shifts and gotos from the terminals that are listed are those from every terminal
  pub leaves-by-list : (table on : List ℕ) (q : ℕ) {rows from terminals offsets costs : List ℕ} {bound n : ℕ} {K M L : ℕ → ℕ → ℕ} → Skips σ (tables_of cells) (claim_in d table) rows → ¬ (flag_in on q ≡ 0)
      → TerminalsListed d.t bound (layer_row q) rows from d.t terminals offsets costs n
      → TableStep σ (ShiftsBy σ d want (tables_of cells) q terminals costs n) K M
      → TableStep σ (GotosBy σ d want (tables_of cells) table q offsets costs n d.n) M L
      → TableStep σ (LeavesState σ d want (tables_of cells) (claim_in d table) (cut_at σ bound (value_in σ from on)) q) K L
  unfolding claim_in
  leaves-by-list table on q {rows} {from} {terminals} {offsets} {costs} {bound} {n} k o l s g = step-among
      (λ q' z w. ⊎_elim
      (λ (j, hj, (e, hz, ew, on)). (get_or terminals j 0, (l.each j hj).below, inl (e, hz, rw (cost j hj) ew, on)))
      (λ (X, hX, (j, hj, (e, hz, ew, on))). (get_or terminals j 0, (l.each j hj).below, inr (X, hX, (e, hz, rw (cost j hj, begins X j hj) ew, on)))))
      (λ q' z w (b, hb, x) h u. listed q' z w b hb x (l.all b hb (near b hb x u) (λ c. leaves-skipped q b _ q' z w k c hb x u)))
      (step-join s g)
    where
      cost : (j : ℕ) → j < n → cut_at σ bound (value_in σ from on) q (get_or terminals j 0) ≡ get_or costs j 0
      cost j hj = let e = l.each j hj in rw (value_read σ from on q (get_or terminals j 0) o, ← e.read) (cut-within σ bound (get_or costs j 0) e.near)

      begins : (X j : ℕ) → j < n → crossing_row d q X (get_or terminals j 0) ≡ crossing_block d q X + get_or offsets j 0
      begins X j hj = rw (l.each j hj).begins (crossing-split d q X (get_or terminals j 0))

      near : {q' z w : ℕ} (b : ℕ) → b < d.t → Leaves σ d want (tables_of cells) (claim_in d table) q b (cut_at σ bound (value_in σ from on) q b) q' z w → w < unreached σ → get_or from (layer_row q + b) 0 ≤ bound
      near {q'} {z} {w} b hb x u = go (dec_lt bound (get_or from (layer_row q + b) 0))
        where
          go : Dec (bound < get_or from (layer_row q + b) 0) → get_or from (layer_row q + b) 0 ≤ bound
          go (yes f) = absurd (leaves-far σ d want (tables_of cells) (claim_in d table) q b _ q' z w (rw (value_read σ from on q b o, cut-beyond σ bound _ f) (omega arith)) x u)
          go (no f) = omega arith

      listed : (q' z w b : ℕ) → b < d.t → Leaves σ d want (tables_of cells) (claim_in d table) q b (cut_at σ bound (value_in σ from on) q b) q' z w → (j : ℕ) × (j < n) × (get_or terminals j 0 ≡ b)
          → ShiftsBy σ d want (tables_of cells) q terminals costs n q' z w ⊎ GotosBy σ d want (tables_of cells) table q offsets costs n d.n q' z w
      listed q' z w b hb x (j, hj, f) = ⊎_elim
          (λ (e, hz, ew, on). inl (j, hj, (e, hz, rw (← cost j hj) ew, on)))
          (λ (X, hX, (e, hz, ew, on)). inr (X, hX, (j, hj, (e, hz, rw (← cost j hj, ← begins X j hj) ew, on))))
          (rw (← f) at x)

  -- from every state, over a layer that was unreached everywhere
  pub lengthened : (claim : Claims) (L : ℕ → ℕ → ℕ) {K L' : ℕ → ℕ → ℕ} → ((q z : ℕ) → K q z ≡ unreached σ) → TableStep σ (Upto (LeavesState σ d want (tables_of cells) claim L) d.s) K L'
      → LengthenedTo σ want (tables_of cells) claim L L'
  lengthened claim L {K} {L'} blank s q z hz = record {
    below = λ x l k. below x l k (dec_lt x (unreached σ));
    attained = ⊎_elim (λ e. inl (e ∙ blank q z)) (λ c. inr (known q z (L' q z) c)) (s.attained q z (small hz));
  }
    where
      small : {b : ℕ} → b < (tables_of cells).terminals → b < 32
      small {b} hb = omega (arith, terminals-are h, h.small.terminals)

      within : {b : ℕ} → b < (tables_of cells).terminals → b < d.t
      within {b} hb = omega (arith, terminals-are h)

      candidate : {q z x : ℕ} → Longer σ (tables_of cells) claim L q z x → Wanted want q → Upto (LeavesState σ d want (tables_of cells) claim L) d.s q z x
      candidate (add-shift {q₁} {t} {q₂} z ht e hz) k = (q₁, rw (← states-are h) ((in-range h).shifts q₁ t q₂ e).0, (t, within ht, inl (e, within hz, refl, k)))
      candidate (add-goto {q₁} {q₂} X b z hb g hz) k =
          let (l, lX, lg) = goto-some h q₁ X q₂ g in
          (q₁, l, (b, within hb, inr (X, lX, (g, within hz, refl, k))))

      below : (x : ℕ) → Longer σ (tables_of cells) claim L q z x → Wanted want q → Dec (x < unreached σ) → L' q z ≤ x
      below x l k (yes u) = s.below q z x (candidate l k) (small hz) u
      below x l k (no u) = omega (arith, s.fall q z (small hz), blank q z)

      terminal : {b : ℕ} → b < d.t → b < (tables_of cells).terminals
      terminal {b} hb = rw (terminals-are h) hb

      known : (q z x : ℕ) → Upto (LeavesState σ d want (tables_of cells) claim L) d.s q z x → Longer σ (tables_of cells) claim L q z x
      known q z x (q₁, hq, (b, hb, c)) = ⊎_elim
          (λ (e, hz, ex, k). rw ex (add-shift z (terminal hb) e (terminal hz)))
          (λ (X, hX, (g, hz, ex, k)). rw ex (add-goto X b z (terminal hb) g (terminal hz)))
          c

module _ {σ : Scale} (d : Sizes) {want : List ℕ} where
  -- a shift lowers the row of its target ..
  pub step-shift : {x : Action} {s : ℕ} (w : ℕ) (old flags on_values on-flags new : List ℕ) → x ≡ Shift s → Wanted want s → TurnedOn σ s old flags on_values on-flags
      → TableStep σ (Upto (Level s w) d.t) (entry_in on_values) (entry_in new) → TableStep σ (Shifts d want x w) (value_in σ old flags) (value_in σ new on-flags)
  step-shift {x} {s} w old flags on_values on-flags new e u on p = step_from on.same (step-as
      (λ q' z v (j, hj, (eq, ez, ev)). (rw eq e, rw ez hj, ev, rw eq u))
      (λ q' z v (e', hz, ev, k). (z, hz, (target q' e', refl, ev)))
      (step-on on_values new on-flags s on.on (λ q' z v (j, hj, eqs). eqs.0) p))
    where
      target : (q' : ℕ) → x ≡ Shift q' → q' ≡ s
      target q' e' = cc

  -- .. and so does a goto, by rows of claims
  pub step-goto : {target g : ℕ} (table : List ℕ) (start : ℕ) (offsets costs : List ℕ) {n : ℕ} (old flags on_values on-flags new : List ℕ) → target ≡ suc g → Wanted want g → TurnedOn σ g old flags on_values on-flags
      → TableStep σ (RelaxedBy σ g table start offsets costs d.t n) (entry_in on_values) (entry_in new)
      → TableStep σ (EntersBy σ d want target table start offsets costs n) (value_in σ old flags) (value_in σ new on-flags)
  step-goto table start offsets costs old flags on_values on-flags new e k on p = step_from on.same (step-as
      (λ q' z w (j, hj, (i, hi, (eq, ez, ew))). (j, hj, (rw eq e, rw ez hi, rw ez ew, rw eq k)))
      (λ q' z w (j, hj, (e', hz, ew, on)). (j, hj, (z, hz, (omega (arith, e, e'), refl, ew))))
      (step-on on_values new on-flags _ on.on (λ q' z w (j, hj, (i, hi, eqs)). eqs.0) p))

module _ {σ : Scale} {d : Sizes} {cells : List ℕ} (h : Holds d cells) where
  -- transitions lead to states of the book
  pub longer-below : {claim : Claims} {L : ℕ → ℕ → ℕ} {q z x : ℕ} → Longer σ (tables_of cells) claim L q z x → q < d.s
  longer-below (add-shift {q₁} {t} {q₂} z ht e hz) = rw (states-are h) at ((in-range h).shifts q₁ t q₂ e).3
  longer-below (add-goto {q₁} {q₂} X b z hb g hz) = (goto-some h q₁ X q₂ g).2

  -- where every state is wanted
  pub lengthened-all : (claim : Claims) (L : ℕ → ℕ → ℕ) {L' : ℕ → ℕ → ℕ} → LengthenedTo σ (replicate 128 1) (tables_of cells) claim L L' → Lengthened σ (tables_of cells) claim L L'
  lengthened-all claim L l q z hz = record { below = λ x c. (l q z hz).below x c (wanted (longer-below c)); attained = (l q z hz).attained }
    where
      wanted : q < d.s → Wanted (replicate 128 1) q
      wanted k = record { on = λ e. omega (arith, e, get_or-replicate {A = ℕ} 128 q 1 0 (omega (arith, h.small.states))) }
