-- Laws of the claims' indices: where each lies, and whose an index is, the pairs' after the crossings'. Assumes nothing.
use Rattle.std.proofs.Common.{⊎_elim, sym, arith}
use Rattle.std.specs.Prelude.{◌≡◌, ℕ, ◌+◌, ◌*◌, ◌/◌, ◌%◌, ◌≤◌, ◌<◌}
use Rattle.book.specs.IndexLaws.{index_below, index-split}
use Rattle.book.specs.Tables.{Tables}
use Rattle.certificate.specs.Certificate.{Certificate, crossing_at, crossing_count, pair_at, pair_count, claim_count, AtCrossing, AtPair, Fails}
use Rattle.certificate.specs.declared.Condition.{Condition}
use Rattle.certificate.specs.declared.Condition.TheVariants.{Range, Roads, Start, Transitions, Short, Sentences}

module _ (B : Tables) where
  pub crossing-below : (q X a z : ℕ) → q < B.states → X < B.nonterminals → a < B.terminals → z < B.terminals → crossing_at B q X a z < crossing_count B
  crossing-below q X a z lq lX la lz =
      index_below (B.states * B.nonterminals * B.terminals) B.terminals ((q * B.nonterminals + X) * B.terminals + a) z
      (index_below (B.states * B.nonterminals) B.terminals (q * B.nonterminals + X) a (index_below B.states B.nonterminals q X lq lX) la)
      lz

  pub pair-below : (s z : ℕ) → s < B.states → z < B.terminals → pair_at B s z < pair_count B
  pair-below s z ls lz = index_below B.states B.terminals s z ls lz

module _ {B : Tables} where
  pub at-crossing-below : {P : ℕ → ℕ → ℕ → ℕ → Type 0} {i : ℕ} → AtCrossing B P i → i < crossing_count B
  at-crossing-below x = rw x.index (crossing-below B x.q x.X x.a x.z x.state x.nonterminal x.first x.following)

  pub at-pair-between : {P : ℕ → ℕ → Type 0} {i : ℕ} → AtPair B P i → (crossing_count B ≤ i) × (i < claim_count B)
  at-pair-between {i} x = let b = pair-below B x.s x.z x.state x.terminal in let e = x.index in (omega arith, omega arith)

-- every condition fails at the index of a claim
pub fails-below : (B : Tables) (c : Certificate) (k : Condition) (i : ℕ) → Fails B c k i → i < claim_count B
fails-below B c Range i x = ⊎_elim (λ y. omega (arith, at-crossing-below y)) (λ y. (at-pair-between y).1) x
fails-below B c Roads i x = omega (arith, at-crossing-below x)
fails-below B c Start i x = (at-pair-between x).1
fails-below B c Transitions i x = (at-pair-between x).1
fails-below B c Short i x = (at-pair-between x).1
fails-below B c Sentences i x = (at-pair-between x).1

-- ---- what stands at an index
module _ {B : Tables} where
  -- the pair of a place in its row
  pub pair-at : {P : ℕ → ℕ → Type 0} (k : ℕ) → k < pair_count B → P (k / B.terminals) (k % B.terminals) → AtPair B P (crossing_count B + k)
  pair-at k h x =
      let g = index-split B.states B.terminals k h in
      record { s = k / B.terminals; z = k % B.terminals; state = g.high; terminal = g.low; index = omega (arith, g.same); fails = x }

  -- the crossing of an index, by what holds of its claim
  pub crossing-at : (P : ℕ → Type 0) (i : ℕ) → i < crossing_count B → P i → AtCrossing B (λ q X a z. P (crossing_at B q X a z)) i
  crossing-at P i h x =
      let f = index-split (B.states * B.nonterminals * B.terminals) B.terminals i h in
      let g = index-split (B.states * B.nonterminals) B.terminals (i / B.terminals) f.high in
      let k = index-split B.states B.nonterminals (i / B.terminals / B.terminals) g.high in
      let same : crossing_at B (i / B.terminals / B.terminals / B.nonterminals) (i / B.terminals / B.terminals % B.nonterminals) (i / B.terminals % B.terminals) (i % B.terminals) ≡ i = rw (k.same, g.same, f.same) in
      record {
        q = i / B.terminals / B.terminals / B.nonterminals;
        X = i / B.terminals / B.terminals % B.nonterminals;
        a = i / B.terminals % B.terminals;
        z = i % B.terminals;
        state = k.high;
        nonterminal = k.low;
        first = g.low;
        following = f.low;
        index = sym same;
        fails = rw same x;
      }
