-- Laws of expanding a state: stores into the table of waiting gotos, and that the reductions in its layers are all that it pops. Assumes nothing.
use Rattle.std.specs.Prelude.{List, ◌⊎◌, ◌≡◌, refl, ℕ, suc, ◌+◌, ◌-◌, ◌%◌, ◌≤◌, ◌<◌, get_or}
use Rattle.std.proofs.Common.{inl, inr, ⊎_elim, sym, ◌∙◌, le_refl, le_trans, add-one, arith}
use Rattle.std.proofs.Math.Decide.{ℕ_discrete, dec_lt}
use Rattle.book.specs.Tables.{Tables, tables_of}
use Rattle.book.specs.TablesLaws.{Holds}
use Rattle.book.proofs.TablesLaws.{in-range, act-some}
use Rattle.book.specs.declared.Action.{Action}
use Rattle.book.specs.declared.Action.TheVariants.{Error, Accept, Shift, Reduce}
use Rattle.book.specs.declared.Sizes.{Sizes}
use Rattle.machine.specs.MachineLaws.{clash}
use Rattle.walk.specs.Scale.{Scale, long, unreached}
use Rattle.walk.proofs.CostLaws.{plus-mono, plus-left-le, plus-zero, plus-far-left, plus-far-right, plus-right-within, cut-within, cut-beyond}
use Rattle.walk.specs.Claims.{Claims, Claimed, none, shifting, crossing, Least, LeastWhere}
use Rattle.walk.specs.ClaimsLaws.{Start, nowhere, shift-first, goto-first}
use Rattle.walk.proofs.ClaimsLaws.{claimed-next, claimed-bounded, claimed-terminal, claimed-start}
use Rattle.walk.specs.Layers.{Layer, LayerWhere, Hereditary, cut_at, by-shift, by-goto}
use Rattle.walk.proofs.LayersLaws.{layer-here, layer-elsewhere, where-longer}
use Rattle.walk.specs.Sum.{shift_cost, plus, cut}
use Rattle.layers.specs.Layer.{value_in, Begun, LengthenedTo}
use Rattle.layers.specs.LayerLaws.{value-off}
use Rattle.layers.specs.States.{flag_in, listed_in, Listed}
use Rattle.layers.specs.LengthenLaws.{longer-below}
use Rattle.layers.specs.Opening.{row_in, Skips}
use Rattle.layers.specs.CrossingLaws.{terminals-are}
use Rattle.layers.specs.Step.{TableStep, Upto}
use Rattle.layers.specs.StepLaws.{step-none, step-as, step-join, step-listed}
use Rattle.positions.specs.PositionLaws.{reduce-passed, passed-before, position_row, position-row}
use Rattle.waiting.specs.CompletesLaws.{near-right, part-within, sum-within}
use Rattle.waiting.specs.Completes.{Pops}
use Rattle.waiting.specs.Pending.{Pends, Pending}
use Rattle.waiting.specs.Waiting.{Narrow, row_of, Expands, Lowered, Popped, Reduces, ReducesState, ReducesLayer, ExpandsAfter, ExpandsFrom, Allows}

-- the tables of a book are narrow
pub holds-narrow : {d : Sizes} {cells : List ℕ} → Holds d cells → Narrow (tables_of cells)
unfolding tables_of
holds-narrow h = record { range = in-range h; terminals = rw (← h.sizes) h.small.terminals; nonterminals = rw (← h.sizes) h.small.nonterminals }

module _ {d : Sizes} {cells : List ℕ} (h : Holds d cells) where
  pub nonterminals-are : (tables_of cells).nonterminals ≡ d.n
  unfolding tables_of
  nonterminals-are = rw (← h.sizes)

-- candidates that are below others, and some of them: the same table
step-cheaper : {σ : Scale} {P Q : ℕ → ℕ → ℕ → Type 0} {K L : ℕ → ℕ → ℕ} → ((q z w : ℕ) → P q z w → w < unreached σ → Q q z w)
    → ((q z w : ℕ) → Q q z w → z < 32 → w < unreached σ → (w' : ℕ) × P q z w' × (w' ≤ w)) → ((q z w : ℕ) → P q z w → w < unreached σ) → TableStep σ P K L → TableStep σ Q K L
step-cheaper f g near s = record {
  fall = s.fall;
  below = λ q z w x h u. let (w', p, l) = g q z w x h u in le_trans (s.below q z w' p h (omega arith)) l;
  attained = λ q z h. ⊎_elim inl (λ p. inr (f q z _ p (near q z _ p))) (s.attained q z h);
}

-- the production is no longer than the walk
pub step-short : {σ : Scale} (B : Tables) (d m p c w : ℕ) {L : ℕ → ℕ → ℕ} → B.len p ≤ m → TableStep σ (Popped B d m p c w) L L
step-short B d m p c w l = step-none (λ row c' w' x h u. omega (arith, x.0))

pub step-long : {σ : Scale} (B : Tables) (d m p c w row : ℕ) {K L : ℕ → ℕ → ℕ} → m < B.len p → row ≡ row_of (d + (B.len p - m - 1)) (B.lhs p) → TableStep σ (Lowered row c w) K L → TableStep σ (Popped B d m p c w) K L
step-long B d m p c w row h e s = step-as (λ q z w' (i, j, k). (h, i ∙ e, j, k)) (λ q z w' (h, i, j, k). (i ∙ sym e, j, k)) s

module _ {σ : Scale} (B : Tables) (d m r q c w : ℕ) where
  -- too much
  pub step-beyond : {L : ℕ → ℕ → ℕ} → r < w → TableStep σ (Reduces B d m r q c w) L L
  step-beyond far = step-none (λ row c' w' x h u. omega (arith, x.0, far))

  pub expand-reduce : {p : ℕ} {K L : ℕ → ℕ → ℕ} → w ≤ r → B.act q c ≡ Reduce p → TableStep σ (Popped B d m p c w) K L → TableStep σ (Reduces B d m r q c w) K L
  expand-reduce {p} h e s = step-as (λ row c' w' x. (h, (p, e, x))) (λ row c' w' (l, (p', e', x)). let i : p' ≡ p = cc in rw i at x) s

  module _ {x : Action} (same : x ≡ B.act q c) {L : ℕ → ℕ → ℕ} where
    pub step-error : x ≡ Error → TableStep σ (Reduces B d m r q c w) L L
    step-error e = step-none (λ row c' w' (l, (p, f, y)) h u. clash cc)

    pub step-accept : x ≡ Accept → TableStep σ (Reduces B d m r q c w) L L
    step-accept e = step-none (λ row c' w' (l, (p, f, y)) h u. clash cc)

    pub expand-shift : {s : ℕ} → x ≡ Shift s → TableStep σ (Reduces B d m r q c w) L L
    expand-shift e = step-none (λ row c' w' (l, (p, f, y)) h u. clash cc)

-- a pass by the list of the states that are on is one over every state: one that is off has no costs
pub expand-listed : (σ : Scale) (s : Sizes) (B : Tables) (d m r v : ℕ) (values on : List ℕ) {K L : ℕ → ℕ → ℕ} → r < unreached σ → Listed s.s on
    → TableStep σ (Upto (λ i. ReducesState σ s B d m r v (value_in σ values on) (listed_in on i)) (get_or on 0 0)) K L → TableStep σ (ReducesLayer σ s B d m r v (value_in σ values on)) K L
expand-listed σ s B d m r v values on hr l = step-listed (listed_in on) l.below (λ j row c w hj (b, hb, x) h u. at j b x.0 (ℕ_discrete (flag_in on j) 0))
  where
    at : (j b : ℕ) → plus σ v (value_in σ values on j b) ≤ r → Dec (flag_in on j ≡ 0) → (i : ℕ) × (i < get_or on 0 0) × (listed_in on i ≡ j)
    at j b x (yes e) = absurd (omega (arith, plus-far-right σ v (value_in σ values on j b) (omega (arith, value-off σ values on j b e))))
    at j b x (no n) = let f = l.every j n in (f.index, f.before, f.same)

-- what is left of a bound: all of it; up to the limit, where sums are not capped, less what was spent
pub allows-within : {σ : Scale} {r v n : ℕ} → r ≤ σ.limit → r ≤ v + n → Allows σ r v n
allows-within {σ} {r} {v} h l = record { bound = λ x i. omega (arith, sum-within σ v x r h i) }

pub allows-all : {σ : Scale} {r v n : ℕ} → r < unreached σ → r ≤ n → Allows σ r v n
allows-all {σ} {r} {v} h l = record { bound = λ x i. le_trans (plus-right-within σ v x r h i) l }

-- what is wanted is wanted one transition before
pending-hereditary : {σ : Scale} {B : Tables} {pending : List ℕ} {bound : ℕ} → Pends B pending → Hereditary σ B (Pending pending bound)
pending-hereditary {σ} s = record { before = λ v w h e p. record { within = le_trans (plus-left-le σ v w h) p.within; passed = passed-before s.range s.positions e p.passed } }

-- a walk to a reduction that pops more than was pushed, within r, is wanted
pops-pending : {σ : Scale} {B : Tables} {claim : Claims} {g a v k X c w r bound : ℕ} {pending : List ℕ} → Pends B pending → Allows σ r v bound → (p : Pops σ B claim g a v k X c w) → w ≤ r
    → Pending pending bound p.count p.last p.taken
pops-pending {c} s left p l = record { within = left.bound p.taken (rw (← p.sum) l); passed = reduce-passed s.range s.positions c p.action (omega (arith, p.longer)) }

-- the reductions in the layer of m transitions, as far as it is wanted, are what is popped after m transitions
module _ {σ : Scale} {s : Sizes} {cells pending : List ℕ} (h : Holds s cells) (spare : Pends (tables_of cells) pending) {claim : Claims} (d : ℕ) {g a v r m bound : ℕ} {L : ℕ → ℕ → ℕ} (hr : r ≤ long σ)
    (left : Allows σ r v bound) (layer : LayerWhere σ (tables_of cells) claim (Pending pending bound) g a m L) where
  pub step-layer : {K M : ℕ → ℕ → ℕ} → TableStep σ (ReducesLayer σ s (tables_of cells) d m r v L) K M → TableStep σ (ExpandsAfter σ (tables_of cells) claim d g a v r m) K M
  step-layer = step-cheaper (λ row c w x u. known row c w x u) (λ row c w x k u. lower row c w x u) (λ row c w (q, hq, (b, hb, (l, (p, e, (f, i, j, k))))). omega arith)
    where
      known : (row c w : ℕ) → ReducesLayer σ s (tables_of cells) d m r v L row c w → w < unreached σ → ExpandsAfter σ (tables_of cells) claim d g a v r m row c w
      known row c w (q, hq, (b, hb, (l, (p, e, (f, i, j, k))))) u =
          let walk : Claimed σ (tables_of cells) claim g a (L q b) b m q = ⊎_elim
          (λ z. absurd (omega (arith, plus-far-right σ v (L q b) (omega arith))))
          (λ y. y)
          (layer q b (rw (terminals-are h) hb)).attained in (
            (tables_of cells).len p - m - 1,
            (tables_of cells).lhs p,
            i,
            (record { taken = L q b; count = m; last = q; production = p; walk = rw j walk; action = rw j e; left = refl; longer = omega arith; sum = k }, refl),
            omega arith,
          )

      lower : (row c w : ℕ) → ExpandsAfter σ (tables_of cells) claim d g a v r m row c w → w < unreached σ → (w' : ℕ) × ReducesLayer σ s (tables_of cells) d m r v L row c w' × (w' ≤ w)
      lower row c w (k, X, e, (p, i), l) u =
          let (hq, hc, ok) = act-some h p.last c (Reduce p.production) p.action (λ z. clash cc) in
          let walk : Claimed σ (tables_of cells) claim g a p.taken c m p.last = rw i at p.walk in
          let wanted : Pending pending bound m p.last p.taken = rw i at (pops-pending spare left p l) in
          let less : plus σ v (L p.last c) ≤ w = rw p.sum (plus-mono σ (le_refl v) ((layer p.last c (claimed-next walk)).below p.taken walk wanted)) in
          let here : row ≡ row_of (d + ((tables_of cells).len p.production - m - 1)) ((tables_of cells).lhs p.production) = omega (arith, p.longer, p.left) in
          (plus σ v (L p.last c), (p.last, hq, (c, hc, (omega arith, (p.production, p.action, (omega (arith, p.longer), here, refl, refl))))), less)

-- before any transition, the reduction in the state itself is
pub at_once : {σ : Scale} {B : Tables} {claim : Claims} {g a x c m q : ℕ} → Claimed σ B claim g a x c m q → m ≡ 0 → (x ≡ 0) × (c ≡ a) × (q ≡ g)
at_once (none h) e = (refl, refl, refl)
at_once (shifting z c e h) i = absurd (omega arith)
at_once (crossing X z c g h) i = absurd (omega arith)

pub step-first : {σ : Scale} {B : Tables} {claim : Claims} (d : ℕ) {g a v r : ℕ} {K L : ℕ → ℕ → ℕ} → r < unreached σ → a < B.terminals → TableStep σ (Reduces B d 0 r g a v) K L
    → TableStep σ (ExpandsAfter σ B claim d g a v r 0) K L
step-first {σ} {B} {claim} d {g} {a} {v} {r} hr ha = step-as (λ row c w x. known row c w x) (λ row c w x. back row c w x)
  where
    known : (row c w : ℕ) → Reduces B d 0 r g a v row c w → ExpandsAfter σ B claim d g a v r 0 row c w
    known row c w (l, (p, e, (f, i, j, k))) =
        (B.len p - 0 - 1, B.lhs p, i, (record { taken = 0; count = 0; last = g; production = p; walk = rw j (none ha); action = rw j e; left = refl; longer = omega arith; sum = k ∙ sym (plus-zero σ v (omega arith)) }, refl), omega arith)

    back : (row c w : ℕ) → ExpandsAfter σ B claim d g a v r 0 row c w → Reduces B d 0 r g a v row c w
    back row c w (k, X, e, (p, i), l) =
        let (x, y, z) = at_once p.walk i in
        let near : v ≤ r = part-within σ v p.taken r hr (rw (← p.sum) l) in
        let same : w ≡ v = p.sum ∙ rw x (plus-zero σ v (omega arith)) in
        let here : row ≡ row_of (d + (B.len p.production - 0 - 1)) (B.lhs p.production) = omega (arith, p.longer, p.left) in
        (near, (p.production, rw (y, z) at p.action, (omega (arith, p.longer), here, y, same)))

le_split : {m n : ℕ} → m ≤ suc n → (m ≡ suc n) ⊎ (m ≤ n)
le_split {m} {n} h = go (dec_lt n m)
  where
    go : Dec (n < m) → (m ≡ suc n) ⊎ (m ≤ n)
    go (yes l) = inl (omega arith)
    go (no l) = inr (omega arith)

here : {σ : Scale} {B : Tables} {claim : Claims} {g a x z n q m bound : ℕ} {pending : List ℕ} {L : ℕ → ℕ → ℕ} → LayerWhere σ B claim (Pending pending bound) g a m L → ((q z : ℕ) → L q z ≡ unreached σ)
    → Claimed σ B claim g a x z n q → m ≡ n → Pending pending bound n q x → unreached σ ≤ x
here {σ} {x} {z} {q} layer off c e p = rw (off q z) at ((layer q z (claimed-next c)).below x (rw (← e) at c) (rw (← e) at p))

-- past an empty layer every walk that is wanted is unreached
spent : {σ : Scale} {B : Tables} {claim : Claims} {g a x z n q m bound : ℕ} {pending : List ℕ} {L : ℕ → ℕ → ℕ} → Pends B pending → LayerWhere σ B claim (Pending pending bound) g a m L
    → ((q z : ℕ) → L q z ≡ unreached σ) → Claimed σ B claim g a x z n q → m ≤ n → Pending pending bound n q x → unreached σ ≤ x
spent {m} s layer off (none h) i p = let same : m ≡ 0 = omega (arith, i) in here layer off (none h) same p
spent {σ} {m} {bound} {pending} {L} s layer off (shifting {v} {t} {n} {q₁} z c e h) i p = ⊎_elim
    (λ f. here layer off (shifting z c e h) f p)
    (λ f. omega (arith, plus-far-left σ v (shift_cost σ t) (spent {x = v} {z = t} {n = n} {q = q₁} s layer off c f ((pending-hereditary s).before v (shift_cost σ t) (claimed-bounded c) (by-shift e) p))))
    (le_split i)
spent {σ} {claim} {m} {bound} {pending} {L} s layer off (crossing {v} {b} {n} {q₁} X z c e h) i p = ⊎_elim
    (λ f. here layer off (crossing X z c e h) f p)
    (λ f. omega (arith, plus-far-left σ v (claim q₁ X b z) (spent {x = v} {z = b} {n = n} {q = q₁} s layer off c f ((pending-hereditary s).before v (claim q₁ X b z) (claimed-bounded c) (by-goto e) p))))
    (le_split i)

-- from a row that can be passed over
module _ {σ : Scale} {B : Tables} {claim : Claims} {g a : ℕ} where
  pub skipped-none : {rows : List ℕ} {x c m q : ℕ} → Skips σ B claim rows → row_in rows g a ≡ 0 → a < B.terminals → Start σ B claim g a x c m q → x < unreached σ → m ≡ 0
  skipped-none k o h nowhere u = refl
  skipped-none k o h (shift-first e w) u = absurd (k.shiftless o e)
  skipped-none k o h (goto-first {b} {v} X e w) u = absurd (omega (arith, plus-far-left σ (claim g X a b) v (omega (arith, k.unclaimed {z = b} o h (claimed-terminal w) e))))

-- ---- layer after layer
module _ {σ : Scale} {B : Tables} {claim : Claims} (d : ℕ) {g a v r : ℕ} where
  pub expands-more : {m : ℕ} {K L M : ℕ → ℕ → ℕ} → TableStep σ (ExpandsAfter σ B claim d g a v r m) K L → TableStep σ (ExpandsFrom σ B claim d g a v r (m + 1)) L M
      → TableStep σ (ExpandsFrom σ B claim d g a v r m) K M
  expands-more {m} s t = step-as
      (λ row c w x. ⊎_elim (λ (k, X, e, (p, i), l). (k, X, e, (p, omega arith), l)) (λ (k, X, e, (p, i), l). (k, X, e, (p, omega arith), l)) x)
      (λ row c w (k, X, e, (p, i), l). split row c w k X e p i l (ℕ_discrete p.count m))
      (step-join s t)
    where
      split : (row c w k X : ℕ) → row ≡ row_of (d + k) X → (p : Pops σ B claim g a v k X c w) → m ≤ p.count → w ≤ r → Dec (p.count ≡ m)
          → ExpandsAfter σ B claim d g a v r m row c w ⊎ ExpandsFrom σ B claim d g a v r (m + 1) row c w
      split row c w k X e p i l (yes f) = inl (k, X, e, (p, f), l)
      split row c w k X e p i l (no f) = inr (k, X, e, (p, omega arith), l)

  pub expands-none : {m : ℕ} {L : ℕ → ℕ → ℕ} → ((k X c w : ℕ) (p : Pops σ B claim g a v k X c w) → m ≤ p.count → w ≤ r → ⊥) → TableStep σ (ExpandsFrom σ B claim d g a v r m) L L
  expands-none f = step-none (λ row c w (k, X, e, (p, i), l) h u. f k X c w p i l)

  pub expands-all : {K L : ℕ → ℕ → ℕ} → TableStep σ (ExpandsFrom σ B claim d g a v r 0) K L → TableStep σ (Expands σ B claim d g a v r) K L
  expands-all = step-as (λ row c w (k, X, e, (p, i), l). (k, X, e, p, l)) (λ row c w (k, X, e, p, l). (k, X, e, (p, omega arith), l))

  -- no production is longer than 32
  pub expands-end : {m : ℕ} {L : ℕ → ℕ → ℕ} → Narrow B → 32 ≤ m → TableStep σ (ExpandsFrom σ B claim d g a v r m) L L
  expands-end n h = expands-none (λ k X c w p i l. omega (arith, p.longer, (n.range.reduces p.last c p.production p.action).3))

  -- from a row that can be passed over there is no layer but the first
  pub expands-skipped : {rows : List ℕ} {L : ℕ → ℕ → ℕ} → r < unreached σ → Skips σ B claim rows → row_in rows g a ≡ 0 → TableStep σ (ExpandsFrom σ B claim d g a v r 1) L L
  expands-skipped hr k o = expands-none (λ j X c w p i l.
      omega (arith, skipped-none k o (claimed-terminal p.walk) (claimed-start p.walk) (near-right σ v p.taken (omega (arith, p.sum)))))

  -- an empty layer is the last
  pub expands-spent : {m bound : ℕ} {pending : List ℕ} {L K : ℕ → ℕ → ℕ} → r < unreached σ → Pends B pending → Allows σ r v bound → LayerWhere σ B claim (Pending pending bound) g a m L
      → ((q z : ℕ) → L q z ≡ unreached σ) → TableStep σ (ExpandsFrom σ B claim d g a v r m) K K
  expands-spent {m} {bound} {pending} {L} hr s left layer off = expands-none (λ k X c w p i l.
      omega (arith, p.sum, plus-far-right σ v p.taken (spent s layer off p.walk i (pops-pending s left p l))))

-- rows go by the depth's remainder
pub step-depth : {σ : Scale} (B : Tables) (claim : Claims) (g a v r d at : ℕ) {K L : ℕ → ℕ → ℕ} → at ≡ d % 32 → TableStep σ (Expands σ B claim at g a v r) K L → TableStep σ (Expands σ B claim d g a v r) K L
step-depth B claim g a v r d at e s = step-as (λ row c w (k, X, i, p, l). (k, X, omega arith, p, l)) (λ row c w (k, X, i, p, l). (k, X, omega arith, p, l)) s

-- the layers
module _ {σ : Scale} {B : Tables} {claim : Claims} where
  pub layer-begun : {q a : ℕ} {L : ℕ → ℕ → ℕ} → B.terminals ≤ 32 → a < B.terminals → Begun σ q a L → Layer σ B claim q a 0 L
  layer-begun {q} {a} {L} h ha b q' z hz = go (ℕ_discrete q q') (ℕ_discrete a z)
    where
      go : Dec (q ≡ q') → Dec (a ≡ z) → Least σ (λ v. Claimed σ B claim q a v z 0 q') (L q' z)
      go (yes e) (yes f) = rw (← e, ← f, b.here) (layer-here ha)
      go (yes e) (no f) = rw (b.elsewhere q' z (omega arith) (λ i j. f j)) (layer-elsewhere (λ i j. f j))
      go (no e) f = rw (b.elsewhere q' z (omega arith) (λ i j. e i)) (layer-elsewhere (λ i j. e i))

  -- costs above the bound may be left out
  pending-cut : {q a n bound : ℕ} {pending : List ℕ} {L : ℕ → ℕ → ℕ} → LayerWhere σ B claim (Pending pending bound) q a n L → LayerWhere σ B claim (Pending pending bound) q a n (cut_at σ bound L)
  pending-cut {q} {a} {n} {bound} {pending} {L} l q' z h = go (dec_lt bound (L q' z))
    where
      go : Dec (bound < L q' z) → LeastWhere σ (Pending pending bound n q') (λ v. Claimed σ B claim q a v z n q') (cut σ bound (L q' z))
      go (yes k) = rw (cut-beyond σ bound (L q' z) k) (record { below = λ x c i. absurd (omega (arith, (l q' z h).below x c i, i.within)); attained = inl refl })
      go (no k) = rw (cut-within σ bound (L q' z) (omega arith)) (l q' z h)

pub layer-next : {σ : Scale} {d : Sizes} {cells pending : List ℕ} {claim : Claims} {q a m bound : ℕ} {L L' : ℕ → ℕ → ℕ} → Holds d cells → Pends (tables_of cells) pending
    → LayerWhere σ (tables_of cells) claim (Pending pending bound) q a m L → LengthenedTo σ (position_row pending m) (tables_of cells) claim (cut_at σ bound L) L'
    → LayerWhere σ (tables_of cells) claim (Pending pending bound) q a (m + 1) L'
layer-next {pending} {m} h s l n q' z hz = rw add-one (where-longer (pending-hereditary s) (pending-cut l)
    (λ x i y k. (n q' z hz).below y k (record { on = λ e. i.passed.on m (omega arith) (sym (position-row pending m (omega (arith, longer-below h k, h.small.states))) ∙ e) })) (n q' z hz).attained)
