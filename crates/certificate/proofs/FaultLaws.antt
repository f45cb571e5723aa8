-- Laws of the check's parts: what each search finds is where its condition first fails. Assumes nothing.
use Rattle.std.specs.Prelude.{true, List, ◌⊎◌, ◌≢◌, ◌≡◌, refl, ℕ, suc, ◌+◌, ◌/◌, ◌%◌, ◌≤◌, ◌<◌}
use Rattle.std.proofs.lemmas.Bool.{false≢true}
use Rattle.std.proofs.Math.Logic.{inl, inr, ⊎_elim}
use Rattle.std.proofs.Common.{sym, ◌∙◌, ap, zero-mul, le_refl}
use Rattle.std.proofs.Math.Decide.{dec_lt}
use Rattle.std.proofs.Math.Nat.{zero-add}
use native.Mathlib.Omega.{arith}
use borrow.Author.Tests.{lt-ltb, ltb-true, eq-eqb, ne_eqb, eqb-true}
use Rattle.std.proofs.Math.ListN.{length, get_or, get_or-eq_default}
use Rattle.book.specs.IndexLaws.{row_below, index-first, index-split, index-digits}
use Rattle.book.specs.Tables.{tables_of}
use Rattle.book.proofs.TablesLaws.{in-range}
use Rattle.book.specs.declared.Sizes.{Sizes}
use Rattle.walk.specs.Scale.{plain, unreached}
use Rattle.walk.proofs.ClaimsLaws.{claimed-next}
use Rattle.layers.specs.Crossing.{crossing_row, claim_in}
use Rattle.layers.specs.CrossingLaws.{terminals-are, states-are}
use Rattle.roads.specs.Lowest.{Lowest, Lowered, Among}
use Rattle.roads.specs.Roads.{Marked, ByRoads}
use Rattle.roads.specs.Pairs.{pair_in, PairExceeds}
use Rattle.certificate.specs.AdmissionLaws.{room_small}
use Rattle.certificate.specs.Certificate.{crossing_at, crossing_count, pair_at, pair_count, certificate_in, AtCrossing, AtPair, order, Fails, Judged}
use Rattle.certificate.specs.Search.{Before}
use Rattle.certificate.specs.SearchLaws.{judged-fault, before-next}
use Rattle.certificate.specs.IndexLaws.{at-crossing-below, pair-below, pair-at, crossing-at}
use Rattle.certificate.specs.Sentences.{sentences_in}
use Rattle.certificate.specs.Wrong.{WrongSentence, LowestWrong}
use Rattle.certificate.specs.Faults.{fails_alone, InRow, InRows, words_of, lent_in, Lent, HoldTo, Searched}
use Rattle.certificate.specs.declared.Condition.{Condition}
use Rattle.certificate.specs.declared.Condition.TheVariants.{Range, Roads, Start, Transitions, Short, Sentences}
use Rattle.certificate.specs.declared.Verdict.TheVariants.{Fault}

-- ---- a search tells the verdict, or that the condition holds
module _ {fails : Condition → ℕ → Type 0} (k : Condition) {base top r : ℕ} (f : Before fails (order k)) (s : Searched (fails k) base top r) where
  pub searched-fault : {i : ℕ} → i ≡ base + r → r < top → Judged fails (Fault k i)
  searched-fault e h = rw e (judged-fault k f (s.here h) (s.least h))

  pub searched-none : top ≤ r → Before fails (suc (order k))
  searched-none h = before-next k f (s.none h)

-- a search for the lowest place at which Q holds, of which those below the top matter
searched : {fails Q : ℕ → Type 0} {base top wide r : ℕ} → top ≤ wide → ((k : ℕ) → k < top → Q k → fails (base + k))
    → ((i : ℕ) → fails i → (k : ℕ) × (i ≡ base + k) × (k < top) × Q k) → Lowest Q wide r → Searched fails base top r
searched {fails} {Q} {base} {top} {wide} {r} fit to from l = record {
  here = λ h. at h l.attained;
  least = λ h i x. let (k, e, b, q) = from i x in omega (arith, l.below k q);
  none = λ h i x. let (k, e, b, q) = from i x in omega (arith, l.below k q);
}
  where
    at : r < top → (r ≡ wide) ⊎ Q r → fails (base + r)
    at h (inl e) = absurd (omega arith)
    at h (inr q) = to r h q

-- ---- two rows, one after the other
pub row-most : {condition : Condition} {row : List ℕ} {r : ℕ} → Lowest (InRow condition row) (length row) r → r ≤ length row
row-most {r} l = ⊎_elim (λ e. omega arith) (λ x. omega (arith, x.inside)) l.attained

module _ {condition : Condition} {crossings pairs : List ℕ} {i : ℕ} (l : Lowest (InRow condition crossings) (length crossings) i) where
  pub rows-first : {top : ℕ} → i < length crossings → Lowest (InRows condition crossings pairs) top i
  rows-first {top} h = record { below = λ j. ⊎_elim (λ x. l.below j x) (λ (k, e, x). omega arith); attained = ⊎_elim (λ e. absurd (omega arith)) (λ x. inr (inl x)) l.attained }

  pub rows-second : {j : ℕ} → length crossings ≤ i → Lowest (InRow condition pairs) (length pairs) j
      → Lowest (InRows condition crossings pairs) (length crossings + length pairs) (length crossings + j)
  rows-second {j} h m = record {
    below = λ n. ⊎_elim (λ x. absurd (omega (arith, l.below n x, x.inside))) (λ (k, e, x). omega (arith, m.below k x));
    attained = ⊎_elim (λ e. inl (omega arith)) (λ x. inr (inr (j, refl, x))) m.attained;
  }

-- ---- the rows of a certificate as it is lent
module _ {d : Sizes} {cells crossings pairs bytes : List ℕ} (l : Lent d cells crossings pairs bytes) where
  crossing-count : crossing_count (tables_of cells) ≡ length crossings
  unfolding tables_of
  crossing-count = rw (l.crossing-cells, ← l.holds.sizes)

  pair-count : pair_count (tables_of cells) ≡ length pairs
  unfolding tables_of
  pair-count = rw (l.pair-cells, ← l.holds.sizes)

  claims-same : claim_in d crossings ≡ (lent_in d cells crossings pairs bytes).crossing
  unfolding claim_in certificate_in tables_of
  claims-same = rw l.holds.sizes

  pairs-same : pair_in d.t pairs ≡ (lent_in d cells crossings pairs bytes).pair
  unfolding pair_in certificate_in tables_of
  pairs-same = rw l.holds.sizes

  -- no index of a claim wraps
  pub index-fits : (length crossings ≤ 4194304) × (length pairs ≤ 4096)
  index-fits = let s = room_small l.holds.small in (rw l.crossing-cells s.crossings, rw l.pair-cells s.pairs)

  -- a search over the pairs
  pairs-searched : (P : ℕ → ℕ → Type 0) (Q : ℕ → Type 0) (top : ℕ) {wide r : ℕ} → top ≤ wide → top ≤ length pairs
      → ((s z : ℕ) → s < (tables_of cells).states → z < (tables_of cells).terminals → pair_at (tables_of cells) s z < top → Q (pair_at (tables_of cells) s z) → P s z)
      → ((s z : ℕ) → s < (tables_of cells).states → z < (tables_of cells).terminals → P s z → (pair_at (tables_of cells) s z < top) × Q (pair_at (tables_of cells) s z))
      → Lowest Q wide r → Searched (AtPair (tables_of cells) P) (length crossings) top r
  pairs-searched P Q top fit few to from = searched fit
      (λ k h q. rw (← crossing-count) (pair-at k (rw pair-count (omega arith)) (into k h q)))
      (λ i x. let (b, q) = from x.s x.z x.state x.terminal x.fails in (pair_at (tables_of cells) x.s x.z, rw crossing-count at x.index, b, q))
    where
      into : (k : ℕ) → k < top → Q k → P (k / (tables_of cells).terminals) (k % (tables_of cells).terminals)
      into k h q =
          let g = index-split (tables_of cells).states (tables_of cells).terminals k (rw pair-count (omega arith)) in
          to (k / (tables_of cells).terminals) (k % (tables_of cells).terminals) g.high g.low (rw g.same h) (rw g.same q)

  pair_inside : {s z : ℕ} → s < (tables_of cells).states → z < (tables_of cells).terminals → pair_at (tables_of cells) s z < length pairs
  pair_inside {s} {z} ls lz = rw (← pair-count) (pair-below (tables_of cells) s z ls lz)

  -- ---- 'each (0, z) is claimed 0': the first claim that is not is below T
  pub start-searched : {r : ℕ} → Lowest (InRow Start pairs) (length pairs) r → Searched (Fails (tables_of cells) (lent_in d cells crossings pairs bytes) Start) (length crossings) d.t r
  unfolding certificate_in
  start-searched = pairs-searched _ (InRow Start pairs) d.t few few
      (λ s z ls lz h x. (first-state s z lz h, λ e. not-zero (get_or pairs (pair_at (tables_of cells) s z) 0) e x.alone))
      (λ s z ls lz (e, n). (rw (e, zero-mul) (omega (arith, terminals-are l.holds)), record { inside = pair_inside ls lz; alone = zero-not (get_or pairs (pair_at (tables_of cells) s z) 0) n }))
    where
      few : d.t ≤ length pairs
      few = rw l.pair-cells (omega (arith, row_below d.s d.t 0 l.holds.small.some-state))

      first-state : (s z : ℕ) → z < (tables_of cells).terminals → pair_at (tables_of cells) s z < d.t → s ≡ 0
      first-state s z lz h = index-first (tables_of cells).terminals s 0 z (pair_at (tables_of cells) s z) lz (omega (arith, terminals-are l.holds)) (omega arith)

      not-zero : (x : ℕ) → x ≡ 0 → fails_alone Start x ≡ true → ⊥
      not-zero x e f = false≢true (rw (eq-eqb x 0 e) at f)

      zero-not : (x : ℕ) → x ≢ 0 → fails_alone Start x ≡ true
      zero-not x n = rw (ne_eqb x 0 n)

  -- ---- 'no pair is claimed long'
  pub short-searched : {r : ℕ} → Lowest (InRow Short pairs) (length pairs) r
      → Searched (Fails (tables_of cells) (lent_in d cells crossings pairs bytes) Short) (length crossings) (length pairs) r
  unfolding certificate_in
  short-searched = pairs-searched _ (InRow Short pairs) (length pairs) (le_refl _) (le_refl _)
      (λ s z ls lz h x. eqb-true _ _ x.alone)
      (λ s z ls lz e. (pair_inside ls lz, record { inside = pair_inside ls lz; alone = eq-eqb _ _ e }))

  -- ---- 'a claim over 1,002'
  pub range-searched : {r : ℕ} → Lowest (InRows Range crossings pairs) (length crossings + length pairs) r
      → Searched (Fails (tables_of cells) (lent_in d cells crossings pairs bytes) Range) 0 (length crossings + length pairs) r
  unfolding certificate_in
  range-searched = searched (le_refl _) (λ k h x. rw zero-add (⊎_elim (λ y. inl (crossing k y)) (λ (j, e, y). inr (rw e (pair j y))) x)) (λ i x. ⊎_elim (from-crossing i) (from-pair i) x)
    where
      crossing : (k : ℕ) → InRow Range crossings k → AtCrossing (tables_of cells) (λ q X a z. unreached plain < get_or crossings (crossing_at (tables_of cells) q X a z) 0) k
      crossing k y = crossing-at (λ i. unreached plain < get_or crossings i 0) k (rw crossing-count y.inside) (ltb-true _ _ y.alone)

      pair : (j : ℕ) → InRow Range pairs j → AtPair (tables_of cells) (λ s z. unreached plain < get_or pairs (pair_at (tables_of cells) s z) 0) (length crossings + j)
      pair j y =
          let g = index-split (tables_of cells).states (tables_of cells).terminals j (rw pair-count y.inside) in
          rw (← crossing-count) (pair-at j (rw pair-count y.inside) (rw g.same (ltb-true _ _ y.alone)))

      from-crossing : (i : ℕ) → AtCrossing (tables_of cells) (λ q X a z. unreached plain < get_or crossings (crossing_at (tables_of cells) q X a z) 0) i
          → (k : ℕ) × (i ≡ 0 + k) × (k < length crossings + length pairs) × InRows Range crossings pairs k
      from-crossing i x =
          let b : i < length crossings = rw crossing-count at (at-crossing-below x) in
          (i, omega arith, omega arith, inl (record { inside = b; alone = lt-ltb (unreached plain) (get_or crossings i 0) (rw x.index x.fails) }))

      from-pair : (i : ℕ) → AtPair (tables_of cells) (λ s z. unreached plain < get_or pairs (pair_at (tables_of cells) s z) 0) i
          → (k : ℕ) × (i ≡ 0 + k) × (k < length crossings + length pairs) × InRows Range crossings pairs k
      from-pair i x =
          let b = pair_inside x.state x.terminal in
          let e : i ≡ length crossings + pair_at (tables_of cells) x.s x.z = rw crossing-count at x.index in
          (i, omega arith, omega arith, inr (pair_at (tables_of cells) x.s x.z, e, record { inside = b; alone = lt-ltb _ _ x.fails }))

  -- ---- 'no pair's claim exceeds any pair's claim plus one transition ..'
  pub transitions-searched : {r : ℕ} → Lowest (PairExceeds d (tables_of cells) (claim_in d crossings) pairs) (length pairs) r
      → Searched (Fails (tables_of cells) (lent_in d cells crossings pairs bytes) Transitions) (length crossings) (length pairs) r
  transitions-searched = searched (le_refl _)
      (λ k h x. record {
        s = x.s;
        z = x.z;
        state = rw (states-are l.holds) x.state;
        terminal = rw (terminals-are l.holds) x.terminal;
        index = rw (crossing-count, terminals-are l.holds) (ap (λ (n : ℕ). length crossings + n) x.index);
        fails = (x.v, rw (← claims-same, ← pairs-same) x.longer, rw (← pairs-same) x.exceeds);
      })
      (λ i x. let (v, longer, h) = x.fails in (
        pair_at (tables_of cells) x.s x.z,
        rw crossing-count at x.index,
        pair_inside x.state x.terminal,
        record {
          s = x.s;
          z = x.z;
          v = v;
          state = rw (states-are l.holds) at x.state;
          terminal = rw (terminals-are l.holds) at x.terminal;
          index = rw (terminals-are l.holds);
          longer = rw (claims-same, pairs-same) longer;
          exceeds = rw pairs-same h;
        },
      ))

  -- ---- 'each crossing's claim is no more than any road ..'
  index_same : (q X a z : ℕ) → crossing_row d q X a + z ≡ crossing_at (tables_of cells) q X a z
  unfolding tables_of
  index_same q X a z = rw l.holds.sizes

  pub roads-searched : {top r : ℕ} → top ≡ length crossings + length pairs
      → Lowered (Among d.s (λ q. Among d.t (λ a. ByRoads d (tables_of cells) (claim_in d crossings) q a 0 32))) top r
      → Searched (Fails (tables_of cells) (lent_in d cells crossings pairs bytes) Roads) 0 top r
  roads-searched {top} {r} e p = searched (le_refl _) (λ k h (q, lq, (a, la, x)). rw zero-add (to k q lq a la x)) from p.lowest
    where
      to : (k q : ℕ) → q < d.s → (a : ℕ) → a < d.t → ByRoads d (tables_of cells) (claim_in d crossings) q a 0 32 k
          → Fails (tables_of cells) (lent_in d cells crossings pairs bytes) Roads k
      to k q lq a la x =
          let y = x.road.exceeded in
          let b = y.exceeded in
          let X = (tables_of cells).lhs y.production in
          record {
            q = q;
            X = X;
            a = a;
            z = x.road.z;
            state = rw (states-are l.holds) lq;
            nonterminal = ((in-range l.holds).reduces x.road.last x.road.z y.production y.reduced).2;
            first = rw (terminals-are l.holds) la;
            following = claimed-next x.road.walk;
            index = b.index ∙ index_same q X a x.road.z;
            fails = (
              x.road.v,
              record { production = y.production; last = x.road.last; road = rw (← claims-same, b.long) x.road.walk; reduced = y.reduced; left = refl },
              rw (← claims-same) b.exceeds,
            );
          }

      from : (i : ℕ) → Fails (tables_of cells) (lent_in d cells crossings pairs bytes) Roads i
          → (k : ℕ) × (i ≡ 0 + k) × (k < top) × Among d.s (λ q. Among d.t (λ a. ByRoads d (tables_of cells) (claim_in d crossings) q a 0 32)) k
      from i x =
          let (v, road, h) = x.fails in
          let p = road.production in
          let most = ((in-range l.holds).reduces road.last x.z p road.reduced).3 in
          let b : i < length crossings = rw crossing-count at (at-crossing-below x) in (
            i,
            sym (zero-add i),
            omega arith,
            (
              x.q,
              rw (states-are l.holds) at x.state,
              (
                x.a,
                rw (terminals-are l.holds) at x.first,
                record {
                  count = (tables_of cells).len p;
                  from = omega arith;
                  to = most;
                  road = record {
                    last = road.last;
                    z = x.z;
                    v = v;
                    walk = rw claims-same road.road;
                    exceeded = record {
                      production = p;
                      reduced = road.reduced;
                      exceeded = record { long = refl; index = rw road.left (x.index ∙ sym (index_same x.q x.X x.a x.z)); exceeds = rw (road.left, claims-same) h };
                    };
                  };
                },
              ),
            ),
          )

  -- ---- 'every sentence has its claimed length and reaches its pair within a run's limits'
  words_same : l.written.ws ≡ words_of (sentences_in d.t bytes pairs)
  words_same = rw l.written.whole

  pub sentences-searched : {r : ℕ} → LowestWrong (tables_of cells) d.t bytes pairs r
      → Searched (Fails (tables_of cells) (lent_in d cells crossings pairs bytes) Sentences) (length crossings) (length pairs) r
  unfolding certificate_in
  sentences-searched {r} w = pairs-searched _ (WrongSentence (tables_of cells) d.t pairs (words_of (sentences_in d.t bytes pairs))) (length pairs) (le_refl _) (le_refl _)
      (λ s z ls lz h x. (x.claimed, rw ((digits s z lz).1, (digits s z lz).0) at x.wrong))
      (λ s z ls lz (h, x). (pair_inside ls lz, record { there = pair_inside ls lz; claimed = h; wrong = rw ((digits s z lz).1, (digits s z lz).0) x }))
      (rw words_same at (w.is l.written.ws l.written.end l.written.whole))
    where
      digits : (s z : ℕ) → z < (tables_of cells).terminals → (pair_at (tables_of cells) s z / d.t ≡ s) × (pair_at (tables_of cells) s z % d.t ≡ z)
      digits s z lz = rw (← terminals-are l.holds) (index-digits (tables_of cells).terminals s z lz)

  -- ---- what holds after the searches, one by one
  pub after-range : {i : ℕ} → Lowest (InRows Range crossings pairs) (length crossings + length pairs) i → length crossings + length pairs ≤ i
      → HoldTo d cells crossings pairs bytes 1
  after-range x h = searched-none Range (λ k j l y. omega arith) (range-searched x) h

  module _ (f : HoldTo d cells crossings pairs bytes 2) {i : ℕ} (x : Lowest (InRow Start pairs) (length pairs) i) (h : d.t ≤ i) where
    pub after-start : HoldTo d cells crossings pairs bytes 3
    after-start = searched-none Start f (start-searched x) h

    module _ {j : ℕ} (y : Lowest (PairExceeds d (tables_of cells) (claim_in d crossings) pairs) (length pairs) j) (g : length pairs ≤ j) where
      pub after-transitions : HoldTo d cells crossings pairs bytes 4
      after-transitions = searched-none Transitions after-start (transitions-searched y) g

      pub after-short : {k : ℕ} → Lowest (InRow Short pairs) (length pairs) k → length pairs ≤ k → HoldTo d cells crossings pairs bytes 5
      after-short z e = searched-none Short after-transitions (short-searched z) e

  -- ---- where no claim is over 1,002
  module _ (f : Before (Fails (tables_of cells) (lent_in d cells crossings pairs bytes)) 1) where
    pub range-marked : Marked d cells crossings
    unfolding certificate_in
    range-marked = record { fitted = record { holds = l.holds; fits = omega (arith, l.crossing-cells) }; most = λ k. go k (dec_lt k (length crossings)) }
      where
        go : (k : ℕ) → Dec (k < length crossings) → get_or crossings k 0 ≤ unreached plain
        go k (yes h) =
            let n : ¬ (unreached plain < get_or crossings k 0) = λ x. f Range k (omega arith) (inl (crossing-at (λ i. unreached plain < get_or crossings i 0) k (rw crossing-count h) x)) in
            omega arith
        go k (no h) = rw (get_or-eq_default crossings 0 {n = k} (omega arith)) (omega arith)

    pub range-pairs : (k : ℕ) → get_or pairs k 0 ≤ unreached plain
    unfolding certificate_in
    range-pairs k = go (dec_lt k (length pairs))
      where
        go : Dec (k < length pairs) → get_or pairs k 0 ≤ unreached plain
        go (yes h) =
            let g = index-split (tables_of cells).states (tables_of cells).terminals k (rw pair-count h) in
            let n : ¬ (unreached plain < get_or pairs k 0) = λ x. f Range (crossing_count (tables_of cells) + k) (omega arith) (inr (pair-at k (rw pair-count h) (rw g.same x))) in
            omega arith
        go (no h) = rw (get_or-eq_default pairs 0 {n = k} (omega arith)) (omega arith)
