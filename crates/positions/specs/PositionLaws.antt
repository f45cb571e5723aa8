-- Laws of positions: one cell more, and that a walk to a reduction stands only where the flag is set. Assumes nothing.
use Rattle.std.specs.Prelude.{Bool, true, false, List, ◌≡◌, refl, ℕ, suc, ◌+◌, ◌-◌, ◌*◌, ◌/◌, ◌%◌, ◌≤◌, ◌<◌, max, length, get_or, set, take, drop, replicate}
use Rattle.std.proofs.Common.{sym, ◌∙◌, subst, arith, length-set, length-take, length-drop, get_or-set_same, get_or-set_other, get_or-take, get_or-drop}
use Rattle.std.proofs.Math.Decide.{ℕ_discrete, dec_lt}
use Rattle.std.proofs.lemmas.List.{length-replicate}
use Rattle.std.proofs.Math.ListN.{get_or-eq_default}
use Rattle.book.specs.Tables.{Tables, tables_of}
use Rattle.book.specs.TablesLaws.{Holds, InRange}
use Rattle.book.proofs.TablesLaws.{in-range, goto-some}
use Rattle.book.specs.declared.Action.{Action}
use Rattle.book.specs.declared.Action.TheVariants.{Error, Accept, Shift, Reduce}
use Rattle.book.specs.declared.Sizes.{Sizes}
use Rattle.machine.specs.MachineLaws.{clash}
use Rattle.walk.specs.Layers.{Leads, by-shift, by-goto}
use Rattle.layers.specs.ActionLaws.{reduce-below}
use Rattle.layers.specs.CrossingLaws.{terminals-are, states-are}
use Rattle.layers.specs.StatesLaws.{cleared-cell}
use Rattle.positions.specs.Position.{Ends, LongestOf, position_in, BarredAction, BarredGoto, Barred, Positions, PositionPassed}

-- past the last position
pub position-none : (positions : List ℕ) (n q : ℕ) → length positions ≡ 4096 → 32 ≤ n → position_in positions n q ≡ 0
position-none positions n q e h = get_or-eq_default positions 0 (omega (arith, e))

pub ends-most : (whole : Bool) {len n : ℕ} → Ends whole len n → n ≤ len
ends-most true e = omega (arith, e)
ends-most false h = omega (arith, h)

-- one production more
pub longest-of-more : {B : Tables} {p r v n : ℕ} → LongestOf B p r → v ≡ B.len p → v ≤ 32 → n ≡ max r v → LongestOf B (p + 1) n
longest-of-more {B} {p} {r} {v} {n} l f s e = record { bound = λ k h. go k h (ℕ_discrete k p); most = omega (arith, l.most) }
  where
    go : (k : ℕ) → k < p + 1 → Dec (k ≡ p) → B.len k ≤ n
    go k h (yes i) = rw i (omega arith)
    go k h (no i) = omega (arith, l.bound k (omega arith))

-- ---- one state
module _ {whole : Bool} {B : Tables} {positions : List ℕ} {n q z : ℕ} {x : Action} (same : x ≡ B.act q z) where
  pub error-barred : x ≡ Error → BarredAction whole B positions n q z
  error-barred e = record { reduces = λ p f. absurd (clash cc); shifts = λ g f. absurd (clash cc) }

  pub accept-barred : x ≡ Accept → BarredAction whole B positions n q z
  accept-barred e = record { reduces = λ p f. absurd (clash cc); shifts = λ g f. absurd (clash cc) }

  pub shift-barred : {s : ℕ} → x ≡ Shift s → position_in positions (n + 1) s ≡ 0 → BarredAction whole B positions n q z
  shift-barred {s} e i = record { reduces = λ p f. absurd (clash cc); shifts = λ g f. let j : g ≡ s = cc in rw j i }

  pub reduce-barred : {p : ℕ} → x ≡ Reduce p → ¬ Ends whole (B.len p) (n + 1) → BarredAction whole B positions n q z
  reduce-barred {p} e i = record { reduces = λ p' f l. let j : p' ≡ p = cc in i (rw j at l); shifts = λ g f. absurd (clash cc) }

pub barred-all : {whole : Bool} {d : Sizes} {cells positions : List ℕ} {n q : ℕ} → Holds d cells → ((z : ℕ) → z < d.t → BarredAction whole (tables_of cells) positions n q z)
    → ((X : ℕ) → X < d.n → BarredGoto (tables_of cells) positions n q X) → Barred whole (tables_of cells) positions n q
barred-all {whole} {d} {cells} {positions} {n} {q} h actions gotos = record {
  reduces = λ z p e. (actions z (rw (terminals-are h) at ((in-range h).reduces q z p e).1)).reduces p e;
  leads = λ g l. leads g l;
}
  where
    leads : (g : ℕ) → Leads (tables_of cells) q g → position_in positions (n + 1) g ≡ 0
    leads g (by-shift {t} e) = (actions t (rw (terminals-are h) at ((in-range h).shifts q t g e).2)).shifts g e
    leads g (by-goto {X} e) = (gotos X (goto-some h q X g e).1).gotos g e

-- one action or goto more
pub each_more : {P : ℕ → Type 0} {i : ℕ} → ((j : ℕ) → j < i → P j) → P i → (j : ℕ) → j < i + 1 → P j
each_more {P} {i} all last j h = go (ℕ_discrete j i)
  where
    go : Dec (j ≡ i) → P j
    go (yes e) = subst P (sym e) last
    go (no n) = all j (omega arith)

-- ---- before any cell: after more transitions than the longest production has, nothing stands anywhere
pub positions-begin : (whole : Bool) {d : Sizes} {cells : List ℕ} {r : ℕ} → Holds d cells → LongestOf (tables_of cells) d.p r → Positions whole (tables_of cells) (r * 128) (replicate 4096 0)
positions-begin whole {d} {cells} {r} h l = record {
  size = length-replicate {A = ℕ} 4096 0;
  barred = λ n q hn hq k e. record {
    reduces = λ z p f len. omega (arith, ends-most whole len, l.bound p (reduce-below q z h refl f), states-are h, h.small.states);
    leads = λ g s. cleared-cell 4096 ((n + 1) * 128 + g);
  };
}

-- ---- one cell more
pub states-few : {d : Sizes} {cells : List ℕ} → Holds d cells → (tables_of cells).states ≤ 128
states-few h = omega (arith, states-are h, h.small.states)

pub pred-more : {k : ℕ} → 0 < k → k - 1 + 1 ≡ k
pred-more {k} h = omega arith

module _ {whole : Bool} {B : Tables} {positions : List ℕ} (k : ℕ) (p : Positions whole B (k + 1) positions) where
  pub positions-set : B.states ≤ 128 → k < 4096 → Positions whole B k (set positions k 1)
  positions-set hs hk = record {
    size = length-set positions k 1 ∙ p.size;
    barred = λ n q hn hq l e. barred n q hn hq l e (ℕ_discrete (n * 128 + q) k);
  }
    where
      barred : (n q : ℕ) → n < 32 → q < B.states → k ≤ n * 128 + q → position_in (set positions k 1) n q ≡ 0 → Dec (n * 128 + q ≡ k) → Barred whole B (set positions k 1) n q
      barred n q hn hq l e (yes i) = absurd (omega (arith, rw i at e, get_or-set_same positions k 1 0 (omega (arith, p.size))))
      barred n q hn hq l e (no i) =
          let b = p.barred n q hn hq (omega arith) (sym (get_or-set_other positions k (n * 128 + q) 1 0 i) ∙ e) in
          record { reduces = b.reduces; leads = λ g x. get_or-set_other positions k ((n + 1) * 128 + g) 1 0 (λ j. omega arith) ∙ b.leads g x }

  pub positions-kept : B.states ≤ 128 → (k % 128 < B.states → Barred whole B positions (k / 128) (k % 128)) → Positions whole B k positions
  positions-kept hs f = record { size = p.size; barred = λ n q hn hq l e. barred n q hn hq l e (ℕ_discrete (n * 128 + q) k) }
    where
      barred : (n q : ℕ) → n < 32 → q < B.states → k ≤ n * 128 + q → position_in positions n q ≡ 0 → Dec (n * 128 + q ≡ k) → Barred whole B positions n q
      barred n q hn hq l e (yes i) =
          let row : k / 128 ≡ n = omega arith in
          let column : k % 128 ≡ q = omega arith in
          rw (row, column) at (f (rw column hq))
      barred n q hn hq l e (no i) = p.barred n q hn hq (omega arith) e

-- ---- walks to reductions
module _ {whole : Bool} {B : Tables} {positions : List ℕ} (i : InRange B) (p : Positions whole B 0 positions) where
  -- where one ends
  pub reduce-passed : {m q r : ℕ} (z : ℕ) → B.act q z ≡ Reduce r → Ends whole (B.len r) m → PositionPassed positions m q
  reduce-passed {m} {q} {r} z e l = record { on = λ k j zero. (p.barred k q (omega (arith, ends-most whole l, (i.reduces q z r e).3)) (i.reduces q z r e).0 (omega arith) zero).reduces z r e (rw j at l) }

  leads-from : {q g : ℕ} → Leads B q g → q < B.states
  leads-from {q} {g} (by-shift {t} e) = (i.shifts q t g e).0
  leads-from {q} {g} (by-goto {X} e) = (i.gotos q X g e).0

  -- .. and one transition before
  pub passed-before : {n q₁ q₂ : ℕ} → Leads B q₁ q₂ → PositionPassed positions (suc n) q₂ → PositionPassed positions n q₁
  passed-before {n} {q₁} {q₂} l c = record { on = λ k j zero. go k j zero (dec_lt k 32) }
    where
      go : (k : ℕ) → n ≡ k + 1 → position_in positions k q₁ ≡ 0 → Dec (k < 32) → ⊥
      go k j zero (yes hk) = c.on n (omega arith) (rw j ((p.barred k q₁ hk (leads-from l) (omega arith) zero).leads q₂ l))
      go k j zero (no hk) = c.on n (omega arith) (position-none positions n q₂ p.size (omega arith))

-- ---- the flags after n + 1 transitions, as a part of all
abbrev pub position_row : List ℕ → ℕ → List ℕ
position_row positions n = take (n * 128 + 128 - n * 128) (drop (n * 128) positions)

module _ (positions : List ℕ) (n : ℕ) where
  width : n * 128 + 128 - n * 128 ≡ 128
  width = omega arith

  pub position-row : {q : ℕ} → q < 128 → get_or (position_row positions n) q 0 ≡ position_in positions n q
  position-row {q} h = rw (width, get_or-take 128 (drop (n * 128) positions) q 0 h, get_or-drop (n * 128) positions q 0)

  pub position-row-size : n * 128 + 128 ≤ length positions → length (position_row positions n) ≡ 128
  position-row-size h = rw (width, length-take 128 (drop (n * 128) positions), length-drop (n * 128) positions) (omega arith)
