-- Laws of the table of breaks: the starts of its layers, what they make of it, and that it is exact at the end. Assumes nothing.
use Rattle.std.specs.Prelude.{Bool, true, false, List, ◌⊎◌, ◌≡◌, refl, ℕ, ◌+◌, ◌*◌, ◌≤◌, ◌<◌, length, get_or, replicate}
use Rattle.std.proofs.Common.{inl, inr, ⊎_elim, ◌∙◌, arith}
use Rattle.std.proofs.Math.Decide.{ℕ_discrete, dec_lt}
use Rattle.std.proofs.lemmas.List.{get_or-replicate}
use Rattle.sets.specs.Bits.{member}
use Rattle.book.specs.Tables.{Tables, tables_of}
use Rattle.book.specs.TablesLaws.{Holds}
use Rattle.book.proofs.TablesLaws.{in-range, left-side-below, lhs-inside}
use Rattle.book.specs.declared.Action.{Action}
use Rattle.book.specs.declared.Action.TheVariants.{Error, Accept, Shift, Reduce}
use Rattle.book.specs.declared.Sizes.{Sizes}
use Rattle.machine.specs.MachineLaws.{clash}
use Rattle.walk.specs.Breaks.{Breaks}
use Rattle.walk.specs.Cost.{Exact}
use Rattle.walk.specs.Scale.{Scale, unreached}
use Rattle.walk.specs.Claims.{Claims, Least, LeastWhere, Arrival}
use Rattle.walk.proofs.ClaimsLaws.{claimed-bounded, claimed-state, start-matches}
use Rattle.walk.proofs.MatchesLaws.{matches-least}
use Rattle.layers.specs.ActionLaws.{reduce-below}
use Rattle.layers.specs.Crossing.{claim_in}
use Rattle.layers.specs.CrossingLaws.{terminal, within, terminals-are, states-are}
use Rattle.layers.specs.Layer.{entry_in, value_in}
use Rattle.layers.specs.LayerLaws.{value_on, value-off}
use Rattle.layers.specs.States.{flag_in, AllOn}
use Rattle.layers.specs.StatesLaws.{listed-off}
use Rattle.layers.specs.Step.{TableStep, Upto, Level}
use Rattle.layers.specs.StepLaws.{step-join}
use Rattle.crossings.specs.Crossings.{CrossingTable}
use Rattle.distances.specs.Distances.{StartTable}
use Rattle.distances.specs.TableLaws.{table-closed, table-witnessed}
use Rattle.breaks.specs.BreakClaims.{BreakArrival}
use Rattle.breaks.specs.BreakClaimsLaws.{arrival-exact}
use Rattle.breaks.specs.AnswerBreakLaws.{no-break-exact}
use Rattle.lengths.specs.declared.Missing.TheVariants.{Goto, States}
use Rattle.lengths.specs.Lengths.{BreakTable, AheadMasks, LackingOn}
use Rattle.lengths.specs.LengthsLaws.{step-least-of}
use Rattle.lengths.specs.Starts.{Ahead, LackingStarts, BottomStarts, Ending, FarBreak, ShortBreak}
use Rattle.lengths.specs.StartsLaws.{far-led, led-far, bottom-led, led-bottom}

-- ---- the costs of the starts are at most unreached
pub bottom-most : {σ : Scale} {t : ℕ} {D : ℕ → ℕ → ℕ} → BottomStarts σ t D → (q a : ℕ) → a < t → D q a ≤ unreached σ
bottom-most k q a h = ⊎_elim (λ e. omega arith) (λ (i, e). omega arith) (k q a h).attained

module _ {σ : Scale} {B : Tables} {claim : Claims} where
  pub lacking-most : {X : ℕ} {D : ℕ → ℕ → ℕ} → LackingStarts σ B claim X D → (q a : ℕ) → a < B.terminals → D q a ≤ unreached σ
  lacking-most k q a h = ⊎_elim (λ e. omega arith) (λ (g, (b, n, c)). claimed-bounded c) (k q a h).attained

  -- ---- what the layers from the starts make of the table
  pub far-step : {X : ℕ} {D K L : ℕ → ℕ → ℕ} → LackingStarts σ B claim X D → TableStep σ (λ s z w. (m : ℕ) × Ending σ B claim (Goto X) D m s z w) K L → TableStep σ (FarBreak σ B claim X) K L
  far-step {X} {D} k = step-least-of
      (λ s z w (m, (r, o, u)). (r.production, r.action, r.fails.0, led-far {D = D} (rw r.fails.0 k) (rw r.fails.1 o) u))
      (λ s z w (p, e, l, (a, f)) hz u.
      let (x, o, j) = far-led {D = D} (rw l k) e f in
      (x, (B.len p, (record { production = p; action = e; fails = (l, refl) }, o, omega (arith, j))), j))

  pub short-step : {D K L : ℕ → ℕ → ℕ} → BottomStarts σ B.terminals D → TableStep σ (λ s z w. (m : ℕ) × Ending σ B claim States D m s z w) K L → TableStep σ (ShortBreak σ B claim) K L
  short-step {D} k = step-least-of
      (λ s z w (m, (r, o, u)). let (a, c) = led-bottom k o u in (r.production, r.action, (a, m, r.fails, c)))
      (λ s z w (p, e, (a, m, l, c)) hz u.
      let (x, o, j) = bottom-led k c in
      (x, (m, (record { production = p; action = e; fails = l }, o, omega (arith, j))), j))

module _ {σ : Scale} {d : Sizes} {cells : List ℕ} (h : Holds d cells) where
  -- ---- the starts: the distances of the states that are on ..
  pub lacking-starts : {table dist masks flags : List ℕ} {X : ℕ} → CrossingTable σ d cells table → StartTable σ d cells dist → AheadMasks (tables_of cells) 0 d.s masks
      → LackingOn σ d.t (tables_of cells) X dist masks d.s flags → LackingStarts σ (tables_of cells) (claim_in d table) X (value_in σ dist flags)
  lacking-starts {table} {dist} {masks} {flags} {X} t s f o q a ha = go (ℕ_discrete (flag_in flags q) 0)
    where
      least : q < d.s → Least σ (Arrival σ (tables_of cells) (claim_in d table) q a) (entry_in dist q a)
      least hq = matches-least (start-matches (in-range h) (table-closed h t) (table-witnessed h t) ha) (s.exact q a hq (within h ha))

      seen : q < d.s → Ahead (tables_of cells) X 0 q → (r : Bool) → member (get_or masks q 0) X ≡ r → member (get_or masks q 0) X ≡ true
      seen hq x true e = e
      seen hq x false e = absurd (f.none q X hq e x)

      low : flag_in flags q ≡ 0 → (tables_of cells).goto q X ≡ 0 → {v : ℕ} → Arrival σ (tables_of cells) (claim_in d table) q a v → Ahead (tables_of cells) X 0 q → unreached σ ≤ v
      low e g {v} (b, n, c) x =
          let hq : q < d.s = rw (states-are h) at (claimed-state (in-range h) (in-range h).start c) in
          omega (arith, o.off q a hq (within h ha) e g (seen hq x (member (get_or masks q 0) X) refl), (least hq).below v (b, n, c))

      go : Dec (flag_in flags q ≡ 0)
          → LeastWhere σ (λ v. Ahead (tables_of cells) X 0 q) (λ v. ((tables_of cells).goto q X ≡ 0) × Arrival σ (tables_of cells) (claim_in d table) q a v) (value_in σ dist flags q a)
      go (yes e) = rw (value-off σ dist flags q a e) (record { below = λ v (g, x) y. low e g x y; attained = inl refl })
      go (no n) = rw (value_on σ dist flags q a n) (record {
        below = λ v (g, x) y. (least on).below v x;
        attained = ⊎_elim inl (λ x. inr (o.lacking q n, x)) (least on).attained;
      })
        where
          on : q < d.s
          on = let i = o.listed.every q n in rw (← i.same) (o.listed.below i.index i.before)

  -- .. and state 0
  pub bottom-starts : (values : List ℕ) {flags : List ℕ} → TableStep σ (Upto (Level 0 0) d.t) (entry_in (replicate 4096 (unreached σ))) (entry_in values) → AllOn 1 flags
      → BottomStarts σ (tables_of cells).terminals (value_in σ values flags)
  bottom-starts values {flags} s on q a ha = go (ℕ_discrete q 0)
    where
      go : Dec (q ≡ 0) → Least σ (λ v. (q ≡ 0) × (v ≡ 0)) (value_in σ values flags q a)
      go (yes e) =
          let l = s.below 0 a 0 (a, within h ha, (refl, refl, refl)) (omega (arith, terminals-are h, h.small.terminals)) (omega arith) in
          let zero : value_in σ values flags q a ≡ 0 = rw (e, value_on σ values flags 0 a (on.all 0 (omega arith))) (omega (arith, l)) in
          record { below = λ v x. omega (arith, zero); attained = inr (e, zero) }
      go (no n) = rw (value-off σ values flags q a (listed-off q on.listed (omega arith))) (record { below = λ v (e, i). absurd (n e); attained = inl refl })

-- ---- the whole table
reduction : (x : Action) → ((p : ℕ) × (x ≡ Reduce p)) ⊎ ((p : ℕ) → ¬ (x ≡ Reduce p))
reduction Error = inr (λ p e. clash cc)
reduction Accept = inr (λ p e. clash cc)
reduction (Shift s) = inr (λ p e. clash cc)
reduction (Reduce p) = inl (p, refl)

module _ {σ : Scale} {d : Sizes} {cells table : List ℕ} (h : Holds d cells) (t : CrossingTable σ d cells table) where
  pub break-table : (mid to : List ℕ) → length to ≡ 4096
      → TableStep σ (Upto (FarBreak σ (tables_of cells) (claim_in d table)) d.n) (entry_in (replicate 4096 (unreached σ))) (entry_in mid)
      → TableStep σ (ShortBreak σ (tables_of cells) (claim_in d table)) (entry_in mid) (entry_in to) → BreakTable σ d cells to
  unfolding entry_in
  break-table mid to size f g = record { size = size; exact = λ s z hs hz. exact s z hs hz (reduction ((tables_of cells).act s z)) }
    where
      both : TableStep σ (λ s z w. Upto (FarBreak σ (tables_of cells) (claim_in d table)) d.n s z w ⊎ ShortBreak σ (tables_of cells) (claim_in d table) s z w) (entry_in (replicate 4096 (unreached σ))) (entry_in to)
      both = step-join f g

      blank : (s z : ℕ) → s < d.s → z < d.t → entry_in (replicate 4096 (unreached σ)) s z ≡ unreached σ
      blank s z hs hz = get_or-replicate {A = ℕ} 4096 (s * 32 + z) (unreached σ) 0 (omega (arith, h.small.states, h.small.terminals))

      small : (z : ℕ) → z < d.t → z < 32
      small z hz = omega (arith, h.small.terminals)

      -- a candidate is a claimed break of the production that is reduced
      candidate : {s z p w : ℕ} → (tables_of cells).act s z ≡ Reduce p → BreakArrival σ (tables_of cells) (claim_in d table) p s z w
          → Upto (FarBreak σ (tables_of cells) (claim_in d table)) d.n s z w ⊎ ShortBreak σ (tables_of cells) (claim_in d table) s z w
      candidate {s} {z} {p} e (inl x) = let l = reduce-below s z h refl e in inl ((tables_of cells).lhs p, rw (lhs-inside h p l) (left-side-below h p l), (p, e, refl, x))
      candidate {s} {z} {p} e (inr x) = inr (p, e, x)

      broken : {s z p w : ℕ} → (tables_of cells).act s z ≡ Reduce p
          → Upto (FarBreak σ (tables_of cells) (claim_in d table)) d.n s z w ⊎ ShortBreak σ (tables_of cells) (claim_in d table) s z w
          → BreakArrival σ (tables_of cells) (claim_in d table) p s z w
      broken {p} e (inl (X, hX, (p', e', l, x))) = let i : p' ≡ p = cc in inl (rw i at x)
      broken {p} e (inr (p', e', x)) = let i : p' ≡ p = cc in inr (rw i at x)

      none : {s z w : ℕ} → ((p : ℕ) → ¬ ((tables_of cells).act s z ≡ Reduce p))
          → Upto (FarBreak σ (tables_of cells) (claim_in d table)) d.n s z w ⊎ ShortBreak σ (tables_of cells) (claim_in d table) s z w → ⊥
      none n (inl (X, hX, (p, e, l, x))) = n p e
      none n (inr (p, e, x)) = n p e

      least : (s z p : ℕ) → s < d.s → z < d.t → (tables_of cells).act s z ≡ Reduce p → Least σ (BreakArrival σ (tables_of cells) (claim_in d table) p s z) (entry_in to s z)
      least s z p hs hz e = record {
        below = λ w x. low w x (dec_lt w (unreached σ));
        attained = ⊎_elim (λ i. inl (i ∙ blank s z hs hz)) (λ x. inr (broken e x)) (both.attained s z (small z hz));
      }
        where
          low : (w : ℕ) → BreakArrival σ (tables_of cells) (claim_in d table) p s z w → Dec (w < unreached σ) → entry_in to s z ≤ w
          low w x (yes u) = both.below s z w (candidate e x) (small z hz) u
          low w x (no u) = omega (arith, both.fall s z (small z hz), blank s z hs hz)

      exact : (s z : ℕ) → s < d.s → z < d.t → ((p : ℕ) × ((tables_of cells).act s z ≡ Reduce p)) ⊎ ((p : ℕ) → ¬ ((tables_of cells).act s z ≡ Reduce p))
          → Exact σ (λ w. Breaks (tables_of cells) w z s) (entry_in to s z)
      exact s z hs hz (inl (p, e)) = arrival-exact (in-range h) (table-closed h t) (table-witnessed h t) (terminal h hz) e (least s z p hs hz e)
      exact s z hs hz (inr n) =
          let same : entry_in to s z ≡ unreached σ = ⊎_elim (λ i. i ∙ blank s z hs hz) (λ x. absurd (none n x)) (both.attained s z (small z hz)) in
          rw same (no-break-exact n)
