-- Laws of the distances to pairs with weights: what one transition makes of them, and that they are the least where it makes nothing less. Assumes nothing.
use Rattle.std.specs.Prelude.{List, ◌⊎◌, ◌≡◌, refl, ℕ, suc, ◌+◌, ◌*◌, ◌-◌, ◌≤◌, ◌<◌, min, length, get_or, set}
use Rattle.std.proofs.Common.{inl, inr, ⊎_elim, sym, ◌∙◌, le_trans, le_of_eq, length-set, get_or-set_same, get_or-set_other}
use Rattle.std.proofs.Math.Decide.{dec_lt, ℕ_discrete}
use native.Mathlib.Omega.{arith}
use Rattle.book.specs.Tables.{Tables, tables_of}
use Rattle.book.specs.TablesLaws.{Holds}
use Rattle.book.proofs.TablesLaws.{in-range, goto-some}
use Rattle.book.specs.declared.Action.TheVariants.{Shift}
use Rattle.book.specs.declared.Sizes.{Sizes}
use Rattle.walk.specs.Walk.{WalksTo}
use Rattle.walk.specs.Scale.{Scale, unreached}
use Rattle.walk.specs.Cost.{Exact}
use Rattle.walk.proofs.CostLaws.{plus-far-left, plus-far-right}
use Rattle.walk.specs.Claims.{Claims, Least, Weighs}
use Rattle.walk.proofs.MatchesLaws.{matches-exact, exact-matches}
use Rattle.walk.proofs.ClaimsLaws.{weights-least, onward-matches}
use Rattle.walk.specs.Layers.{Sooner, from-shift, from-goto, ToGoal}
use Rattle.walk.proofs.LayersLaws.{goal-least}
use Rattle.walk.specs.Sum.{shift_cost}
use Rattle.layers.specs.Crossing.{crossing_row, claim_in}
use Rattle.layers.specs.Opening.{row_in, Skips}
use Rattle.layers.specs.CrossingLaws.{terminals-are, states-are}
use Rattle.layers.specs.Layer.{entry_in}
use Rattle.layers.specs.Step.{TableStep, Upto}
use Rattle.layers.specs.StepLaws.{step-none, step-as}
use Rattle.crossings.specs.Crossings.{CrossingTable}
use Rattle.crossings.specs.Falling.{Stored, kept, stored, Each}
use Rattle.distances.specs.Distances.{distance_in, Bounded, GoalTable}
use Rattle.distances.specs.DistancesLaws.{distance-entry, distance-out, distance-other}
use Rattle.distances.specs.Pass.{Marked, Drawn, Lessened, LessenedUpto, PastShift, PastGoto, TowardShift, by-shift, TowardGoto, by-goto, LeastApproach}
use Rattle.distances.specs.TableLaws.{table-closed, table-witnessed}

-- the least of v and one candidate
pub lessened : {σ : Scale} (v w x y r : ℕ) → r ≡ min x y → x ≡ v → y ≡ w → TableStep σ (λ q z u. u ≡ w) (λ q z. v) (λ q z. r)
lessened v w x y r m ex ey = record {
  fall = λ q z h. omega arith;
  below = λ q z u e h l. omega arith;
  attained = λ q z h. pick (dec_lt v w);
}
  where
    pick : Dec (v < w) → (r ≡ v) ⊎ (r ≡ w)
    pick (yes l) = inl (omega arith)
    pick (no l) = inr (omega arith)

module _ {σ : Scale} {d : Sizes} {cells : List ℕ} (h : Holds d cells) (dist : List ℕ) where
  -- the shift of a ..
  pub to-shift : (q a : ℕ) {g v r : ℕ} → (tables_of cells).act q a ≡ Shift g → LessenedUpto σ (PastShift σ (shift_cost σ a) (distance_in σ dist) g) d.t v r
      → Lessened σ (TowardShift σ d (tables_of cells) (distance_in σ dist) q a) v r
  to-shift q a {g} {v} {r} e s = step-as (λ q' z w (b, hb, i). rw i (by-shift b e hb)) (λ q' z w x. back w x) s
    where
      back : (w : ℕ) → TowardShift σ d (tables_of cells) (distance_in σ dist) q a w → (b : ℕ) × (b < d.t) × PastShift σ (shift_cost σ a) (distance_in σ dist) g b w
      back _ (by-shift {g = g'} b f hb) = let i : g' ≡ g = cc in (b, hb, rw i refl)

  pub to-no-shift : (q a v : ℕ) → ((s : ℕ) → (tables_of cells).act q a ≡ Shift s → ⊥) → Lessened σ (TowardShift σ d (tables_of cells) (distance_in σ dist) q a) v v
  to-no-shift q a v f = step-none (λ q' z w x l u. back w x)
    where
      back : (w : ℕ) → TowardShift σ d (tables_of cells) (distance_in σ dist) q a w → ⊥
      back _ (by-shift {g} b e hb) = f g e

  -- .. and the goto under X
  pub to-goto : (q a X : ℕ) {g v r start : ℕ} (table : List ℕ) → (tables_of cells).goto q X ≡ suc g → start ≡ crossing_row d q X a
      → LessenedUpto σ (PastGoto σ (distance_in σ dist) table start g) d.t v r → Lessened σ (TowardGoto σ d (tables_of cells) (claim_in d table) (distance_in σ dist) q a X) v r
  unfolding claim_in
  to-goto q a X {g} {v} {r} {start} table e i s = step-as (λ q' z w (b, hb, k). rw (k, i) (by-goto b e hb)) (λ q' z w x. back w x) s
    where
      back : (w : ℕ) → TowardGoto σ d (tables_of cells) (claim_in d table) (distance_in σ dist) q a X w → (b : ℕ) × (b < d.t) × PastGoto σ (distance_in σ dist) table start g b w
      back _ (by-goto {g = g'} b f hb) = let k : g' ≡ g = omega arith in (b, hb, rw (k, i) refl)

  pub to-no-goto : (q a X v : ℕ) (claim : Claims) → (tables_of cells).goto q X ≡ 0 → Lessened σ (TowardGoto σ d (tables_of cells) claim (distance_in σ dist) q a X) v v
  to-no-goto q a X v claim e = step-none (λ q' z w x l u. back w x)
    where
      back : (w : ℕ) → TowardGoto σ d (tables_of cells) claim (distance_in σ dist) q a X w → ⊥
      back _ (by-goto b f hb) = omega arith

  module _ {claim : Claims} {q a r : ℕ} (ha : a < (tables_of cells).terminals)
      (s : TableStep σ (λ q' z w. TowardShift σ d (tables_of cells) (distance_in σ dist) q a w ⊎ Upto (λ X q'' y u. TowardGoto σ d (tables_of cells) claim (distance_in σ dist) q a X u) d.n q' z w) (λ q' z. (unreached σ)) (λ q' z. r)) where
    candidate : {v : ℕ} → Sooner σ (tables_of cells) claim (distance_in σ dist) q a v
        → TowardShift σ d (tables_of cells) (distance_in σ dist) q a v ⊎ Upto (λ X q'' y u. TowardGoto σ d (tables_of cells) claim (distance_in σ dist) q a X u) d.n 0 0 v
    candidate (from-shift b e hb) = inl (by-shift b e (rw (terminals-are h) at hb))
    candidate (from-goto {q₁} X b g hb) = let (lq, lX, lg) = goto-some h q X q₁ g in inr (X, lX, by-goto b g (rw (terminals-are h) at hb))

    -- the least that one transition makes ..
    pub sooner-below : {v : ℕ} → Sooner σ (tables_of cells) claim (distance_in σ dist) q a v → r ≤ v
    sooner-below {v} x = go (dec_lt v (unreached σ))
      where
        go : Dec (v < unreached σ) → r ≤ v
        go (yes u) = s.below 0 0 v (candidate x) (omega arith) u
        go (no u) = omega (arith, s.fall 0 0 (omega arith))

    -- .. is made by one, or unreached
    pub sooner-attained : (r ≡ unreached σ) ⊎ Sooner σ (tables_of cells) claim (distance_in σ dist) q a r
    sooner-attained = ⊎_elim inl (λ c. inr (⊎_elim (λ x. shift x) (λ (X, hX, x). goto X x) c)) (s.attained 0 0 (omega arith))
      where
        shift : {w : ℕ} → TowardShift σ d (tables_of cells) (distance_in σ dist) q a w → Sooner σ (tables_of cells) claim (distance_in σ dist) q a w
        shift (by-shift b e hb) = from-shift b e (rw (terminals-are h) hb)

        goto : (X : ℕ) {w : ℕ} → TowardGoto σ d (tables_of cells) claim (distance_in σ dist) q a X w → Sooner σ (tables_of cells) claim (distance_in σ dist) q a w
        goto X (by-goto b e hb) = from-goto X b e (rw (terminals-are h) hb)

    pub sooner-least : Least σ (Sooner σ (tables_of cells) claim (distance_in σ dist) q a) r
    sooner-least = record { below = λ v x. sooner-below x; attained = sooner-attained }

    pub nearest : distance_in σ dist q a ≤ r → LeastApproach σ (tables_of cells) claim q a (distance_in σ dist)
    nearest l = record { bound = λ x. le_trans l (sooner-below x) }

-- from a row that can be passed over a transition makes nothing below unreached ..
pub sooner-skipped : {σ : Scale} {B : Tables} {claim : Claims} {rows : List ℕ} {G : ℕ → ℕ → ℕ} {q a v : ℕ} → Skips σ B claim rows → row_in rows q a ≡ 0 → a < B.terminals
    → Sooner σ B claim G q a v → unreached σ ≤ v
sooner-skipped k o ha (from-shift c e hc) = absurd (k.shiftless o e)
sooner-skipped {σ} {claim} {G} {q} {a} k o ha (from-goto {q₁} X c g hc) = omega (arith, plus-far-left σ (claim q X a c) (G q₁ c) (omega (arith, k.unclaimed {z = c} o ha hc g)))

-- .. so nothing is near
pub nearest-skipped : {σ : Scale} {B : Tables} {claim : Claims} {rows dist : List ℕ} (q a : ℕ) → Skips σ B claim rows → row_in rows q a ≡ 0 → a < B.terminals
    → Bounded σ B.terminals dist → LeastApproach σ B claim q a (distance_in σ dist)
nearest-skipped q a k o ha b = record { bound = λ x. le_trans (b.most q a ha) (sooner-skipped k o ha x) }

-- ---- states without a value
module _ {σ : Scale} {t : ℕ} {flags dist : List ℕ} (m : Marked σ t flags dist) where
  pub past-shift-off : (g one : ℕ) {v : ℕ} → get_or flags g 0 ≡ 0 → LessenedUpto σ (PastShift σ one (distance_in σ dist) g) t v v
  past-shift-off g one e = step-none (λ q z w (b, hb, i) l u. omega (arith, i, plus-far-right σ one (distance_in σ dist g b) (omega (arith, m.off g b hb e))))

  pub past-goto-off : (g : ℕ) (table : List ℕ) (start : ℕ) {v : ℕ} → get_or flags g 0 ≡ 0 → LessenedUpto σ (PastGoto σ (distance_in σ dist) table start g) t v v
  past-goto-off g table start e =
      step-none (λ q z w (b, hb, i) l u. omega (arith, i, plus-far-right σ (get_or table (start + b) 0) (distance_in σ dist g b) (omega (arith, m.off g b hb e))))

  -- a store in the row of a state that is turned on
  pub marked-store : {new : List ℕ} {r : ℕ} (q a v : ℕ) → t ≤ 32 → q < 128 → a < t → Stored (q * 32 + a) v dist r new → Marked σ t (set flags q 1) new
  marked-store q a v small hq ha s = record { count = length-set flags q 1 ∙ m.count; off = λ q' z hz e. off s q' z hz e (ℕ_discrete q' q) }
    where
      off : {new : List ℕ} {r : ℕ} → Stored (q * 32 + a) v dist r new → (q' z : ℕ) → z < t → get_or (set flags q 1) q' 0 ≡ 0 → Dec (q' ≡ q) → distance_in σ new q' z ≡ unreached σ
      off s q' z hz e (yes i) = absurd (omega (arith, get_or-set_same flags q 1 0 (omega (arith, m.count)), rw i at e))
      off (kept l) q' z hz e (no i) = m.off q' z hz (rw (get_or-set_other flags q q' 1 0 i) at e)
      off (stored l) q' z hz e (no i) =
          distance-other σ dist q a v q' z (omega arith) (omega arith) (λ j k. i j) ∙ m.off q' z hz (rw (get_or-set_other flags q q' 1 0 i) at e)

-- the states below i are marked as they are, the others as before
pub record MarkedBelow (σ : Scale) (t i : ℕ) (flags dist : List ℕ) : Type 0 where
  pub count : length flags ≡ 128
  pub off : (q z : ℕ) → q < i → z < t → get_or flags q 0 ≡ 0 → distance_in σ dist q z ≡ unreached σ

pub below_more : {σ : Scale} {t : ℕ} {flags dist : List ℕ} (i v : ℕ) → i < 128 → (v ≡ 0 → (z : ℕ) → z < t → distance_in σ dist i z ≡ unreached σ) → MarkedBelow σ t i flags dist
    → MarkedBelow σ t (i + 1) (set flags i v) dist
below_more {σ} {t} {flags} {dist} i v h f m = record { count = length-set flags i v ∙ m.count; off = λ q z l hz e. off q z l hz e (ℕ_discrete q i) }
  where
    off : (q z : ℕ) → q < i + 1 → z < t → get_or (set flags i v) q 0 ≡ 0 → Dec (q ≡ i) → distance_in σ dist q z ≡ unreached σ
    off q z l hz e (yes k) = rw k (f (sym (get_or-set_same flags i v 0 (omega (arith, m.count))) ∙ rw k at e) z hz)
    off q z l hz e (no k) = m.off q z (omega arith) hz (rw (get_or-set_other flags i q v 0 k) at e)

pub below_all : {σ : Scale} {t : ℕ} {flags dist : List ℕ} → MarkedBelow σ t 128 flags dist → Marked σ t flags dist
below_all {σ} {t} {flags} {dist} m = record { count = m.count; off = λ q z hz e. off q z hz e (dec_lt q 128) }
  where
    off : (q z : ℕ) → z < t → get_or flags q 0 ≡ 0 → Dec (q < 128) → distance_in σ dist q z ≡ unreached σ
    off q z hz e (yes l) = m.off q z l hz e
    off q z hz e (no l) = distance-out σ dist q z (omega arith)

-- from the last state to the first is every state
pub nearest-back : (σ : Scale) (B : Tables) (claim : Claims) (t s : ℕ) (l : List ℕ) → Each (λ i. Each (λ a l. LeastApproach σ B claim (s - 1 - i) a (distance_in σ l)) t) s l
    → Each (λ q. Each (λ a l. LeastApproach σ B claim q a (distance_in σ l)) t) s l
nearest-back σ B claim t s l f q h a ha = let i : s - 1 - (s - 1 - q) ≡ q = omega arith in rw i at (f (s - 1 - q) (omega arith) a ha)

module _ {σ : Scale} {d : Sizes} {cells table weights : List ℕ} (h : Holds d cells) where
  -- what is drawn from the weights, and approached by no transition, is the table
  pub goal-table : {dist : List ℕ} → Drawn σ (tables_of cells) (claim_in d table) weights dist
      → Each (λ q. Each (λ a l. LeastApproach σ (tables_of cells) (claim_in d table) q a (distance_in σ l)) d.t) d.s dist → GoalTable σ d cells table weights dist
  goal-table {dist} w near = record {
    size = w.bounded.size;
    least = λ q a hq ha. rw (← distance-entry σ dist q a (omega (arith, h.small.states)))
        (weights-least (in-range h) (rw (states-are h) hq) (λ s z hs hz. entry s z (rw (states-are h) at hs)) (goal-least end (rw (terminals-are h) ha)));
  }
    where
      entry : (s z : ℕ) → s < d.s → Least σ (Weighs (entry_in weights) s z) (distance_in σ weights s z)
      entry s z hs =
          let e = distance-entry σ weights s z (omega (arith, h.small.states)) in
          record { below = λ y i. le_of_eq (e ∙ sym i); attained = inr e }

      sooner-range : {q a v : ℕ} → Sooner σ (tables_of cells) (claim_in d table) (distance_in σ dist) q a v → q < d.s
      sooner-range {q} {a} (from-shift {q₁} b e hb) = rw (states-are h) at ((in-range h).shifts q a q₁ e).0
      sooner-range {q} (from-goto {q₁} X b g hb) = (goto-some h q X q₁ g).0

      end : ToGoal σ (tables_of cells) (claim_in d table) (distance_in σ weights) (distance_in σ dist)
      end = record {
        goal = w.fall;
        closed = λ q a v ha x. (near q (sooner-range x) a (rw (terminals-are h) at ha)).bound x;
        attained = w.drawn;
      }

  -- in words: where each weight is the least cost of the words in P, those of a walk to any pair and then in P
  pub goal-words : {dist : List ℕ} {P : ℕ → ℕ → List ℕ → Type 0} → CrossingTable σ d cells table → GoalTable σ d cells table weights dist
      → ((s z : ℕ) → s < d.s → z < d.t → Exact σ (P s z) (entry_in weights s z)) → (q a : ℕ) → q < d.s → a < d.t
      → Exact σ (WalksTo (tables_of cells) P q a) (entry_in dist q a)
  goal-words t g f q a hq ha = matches-exact
      (onward-matches (in-range h) (table-closed h t) (table-witnessed h t) (rw (states-are h) hq) (λ s z hs hz. exact-matches (f s z (rw (states-are h) at hs) (rw (terminals-are h) at hz))))
      (g.least q a hq ha)
