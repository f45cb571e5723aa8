-- Laws of the verdict as a function: it is the one right verdict. Assumes nothing.
use Rattle.std.specs.Prelude.{Result, Bool, true, false, cond, not, ◌&&◌, List, ◌⊎◌, ◌↔◌, ◌≡◌, refl, ltb, leb}
use Rattle.std.proofs.lemmas.Bool.{false≢true}
use Rattle.std.proofs.Math.Logic.{inl, inr, ⊎_elim}
use Rattle.std.proofs.Common.{sym, arith}
use Prim.Native.Nat.{ℕ, zero, suc, ◌+◌, ◌≤◌, ◌<◌}
use Rattle.std.proofs.Math.Decide.{ℕ_discrete}
use borrow.Author.Tests.{lt-ltb, le-leb, eq-eqb, ne_eqb, ltb-true, leb-true, eqb-true}
use Rattle.std.proofs.Math.Dec.{eqb}
use Rattle.number.specs.declared.cause.Refusal.{Refusal}
use Rattle.book.specs.Tables.{Tables, tables_of}
use Rattle.book.specs.TablesLaws.{InRange}
use Rattle.book.specs.declared.Action.{Action}
use Rattle.book.specs.declared.Action.TheVariants.{Error, Accept, Shift, Reduce}
use Rattle.machine.specs.MachineLaws.{clash}
use Rattle.walk.specs.Scale.{plain, long, unreached}
use Rattle.walk.specs.Sum.{plus}
use Rattle.walk.specs.Claims.{Claims, Claimed, Least}
use Rattle.walk.specs.Layers.{Longer, add-shift, add-goto, Layer, Hereditary}
use Rattle.walk.proofs.LayersLaws.{layer-here, layer-elsewhere, layer-where, where-longer}
use Rattle.certificate.specs.Certificate.{Certificate, crossing_at, crossing_count, pair_at, claim_count, certificate_in, Road, order, AtCrossing, AtPair, Exceeds, is_right, Fails, Judged}
use Rattle.certificate.specs.declared.Condition.{Condition}
use Rattle.certificate.specs.declared.Condition.TheVariants.{Range, Roads, Start, Transitions, Short, Sentences}
use Rattle.certificate.specs.declared.Verdict.{Verdict}
use Rattle.roads.specs.Lowest.{Lowest, Among}
use Rattle.roads.specs.LowestLaws.{lowest-map}
use Rattle.certificate.specs.Search.{Before}
use Rattle.certificate.specs.SearchLaws.{lowest-none, lowest-join, least-below, lowest-if, certificate-judged}
use Rattle.certificate.specs.Sentences.{Spelled, spelled, refused}
use Rattle.certificate.specs.Checks.{sentences_of, Checks, refuses, judges}
use Rattle.certificate.proofs.ChecksLaws.{spelled-admitted, accepted-range, checks-one}
use Rattle.certificate.specs.Verdict.{by_shift, by_goto, lengthened, layered, by_reduction, road_cost, lowest_crossing, lowest_pair, lowest_fault, verdict, answer, checking}

-- ---- the crossings and the pairs
module _ (B : Tables) where
  pub lowest-crossing : {P : ℕ → ℕ → ℕ → ℕ → Type 0} {test : ℕ → ℕ → ℕ → ℕ → Bool}
      → ((q X a z : ℕ) → q < B.states → X < B.nonterminals → a < B.terminals → z < B.terminals → (test q X a z ≡ true) ↔ P q X a z)
      → Lowest (AtCrossing B P) (claim_count B) (lowest_crossing B test)
  unfolding lowest_crossing
  lowest-crossing {P} {test} f = lowest-map
      {P = Among B.states (λ q. Among B.nonterminals (λ X. Among B.terminals (λ a. Among B.terminals (λ z i. (i ≡ crossing_at B q X a z) × P q X a z))))}
      (λ i x. record {
        q = x.0;
        X = x.2.0;
        a = x.2.2.0;
        z = x.2.2.2.0;
        state = x.1;
        nonterminal = x.2.1;
        first = x.2.2.1;
        following = x.2.2.2.1;
        index = x.2.2.2.2.0;
        fails = x.2.2.2.2.1;
      })
      (λ i x. (x.q, x.state, (x.X, x.nonterminal, (x.a, x.first, (x.z, x.following, (x.index, x.fails))))))
      (least-below (claim_count B) B.states
      (λ q lq. least-below (claim_count B) B.nonterminals
      (λ X lX. least-below (claim_count B) B.terminals
      (λ a la. least-below (claim_count B) B.terminals
      (λ z lz. let (g, h) = f q X a z lq lX la lz in lowest-if (test q X a z) (crossing_at B q X a z) (claim_count B) g h)))))

  pub lowest-pair : {P : ℕ → ℕ → Type 0} {test : ℕ → ℕ → Bool} → ((s z : ℕ) → s < B.states → z < B.terminals → (test s z ≡ true) ↔ P s z)
      → Lowest (AtPair B P) (claim_count B) (lowest_pair B test)
  unfolding lowest_pair
  lowest-pair {P} {test} f = lowest-map
      {P = Among B.states (λ s. Among B.terminals (λ z i. (i ≡ crossing_count B + pair_at B s z) × P s z))}
      (λ i x. record { s = x.0; z = x.2.0; state = x.1; terminal = x.2.1; index = x.2.2.0; fails = x.2.2.1 })
      (λ i x. (x.s, x.state, (x.z, x.terminal, (x.index, x.fails))))
      (least-below (claim_count B) B.states
      (λ s ls. least-below (claim_count B) B.terminals
      (λ z lz. let (g, h) = f s z ls lz in lowest-if (test s z) (crossing_count B + pair_at B s z) (claim_count B) g h)))

-- ---- the least cost of a road
-- one transition more, by a shift and by a goto
abbrev ByShift : Tables → (ℕ → ℕ → ℕ) → ℕ → ℕ → ℕ → ℕ → Type 0
ByShift B L q₁ b q v = (v ≡ plus plain (L q₁ b) 1) × (B.act q₁ b ≡ Shift q)

abbrev ByGoto : Tables → Claims → (ℕ → ℕ → ℕ) → ℕ → ℕ → ℕ → ℕ → ℕ → ℕ → Type 0
ByGoto B claim L q₁ b q z X v = (v ≡ plus plain (L q₁ b) (claim q₁ X b z)) × (B.goto q₁ X ≡ suc q)

-- a road that ends in this state
abbrev RoadTo : Tables → Claims → ℕ → ℕ → ℕ → ℕ → ℕ → ℕ → Type 0
RoadTo B claim q X a z last v = (p : ℕ) × (B.act last z ≡ Reduce p) × (B.lhs p ≡ X) × Claimed plain B claim q a v z (B.len p) last

module _ {B : Tables} (r : InRange B) (claim : Claims) where
  shift-least : (L : ℕ → ℕ → ℕ) (q₁ b q : ℕ) → Lowest (ByShift B L q₁ b q) (unreached plain) (by_shift (L q₁ b) q (B.act q₁ b))
  shift-least L q₁ b q = go (B.act q₁ b) refl
    where
      go : (x : Action) → B.act q₁ b ≡ x → Lowest (ByShift B L q₁ b q) (unreached plain) (by_shift (L q₁ b) q x)
      go Error e = lowest-none (λ v (i, f). clash (cc))
      go Accept e = lowest-none (λ v (i, f). clash (cc))
      go (Shift s) e = lowest-if (eqb s q) (plus plain (L q₁ b) 1) (unreached plain) (λ t. let i : s ≡ q = eqb-true s q t in rw i at e) (λ f. eq-eqb s q (cc))
      go (Reduce p) e = lowest-none (λ v (i, f). clash (cc))

  goto-least : (L : ℕ → ℕ → ℕ) (q₁ b q z X : ℕ) → Lowest (ByGoto B claim L q₁ b q z X) (unreached plain) (by_goto (L q₁ b) (claim q₁ X b z) q (B.goto q₁ X))
  goto-least L q₁ b q z X =
      lowest-if (eqb (B.goto q₁ X) (suc q)) (plus plain (L q₁ b) (claim q₁ X b z)) (unreached plain) (λ t. eqb-true (B.goto q₁ X) (suc q) t) (λ f. eq-eqb (B.goto q₁ X) (suc q) f)

  -- what `lengthened` gives is the least of one transition more
  pub lengthened-least : (L : ℕ → ℕ → ℕ) (q z : ℕ) → z < B.terminals → Lowest (Longer plain B claim L q z) (unreached plain) (lengthened B claim L q z)
  unfolding lengthened
  lengthened-least L q z lz = lowest-map
      {P = Among B.states (λ q₁. Among B.terminals (λ b v. ByShift B L q₁ b q v ⊎ Among B.nonterminals (ByGoto B claim L q₁ b q z) v))}
      (λ v x. out v x.0 x.2.0 x.2.1 x.2.2)
      (λ v x. into x)
      (least-below (unreached plain) B.states
      (λ q₁ l₁. least-below (unreached plain) B.terminals
      (λ b lb. lowest-join {P = ByShift B L q₁ b q} {Q = Among B.nonterminals (ByGoto B claim L q₁ b q z)} (λ v x. inl x) (λ v x. inr x) (λ v x. x)
      (shift-least L q₁ b q)
      (least-below (unreached plain) B.nonterminals (λ X lX. goto-least L q₁ b q z X)))))
    where
      out : (v q₁ b : ℕ) → b < B.terminals → ByShift B L q₁ b q v ⊎ Among B.nonterminals (ByGoto B claim L q₁ b q z) v → Longer plain B claim L q z v
      out v q₁ b lb (inl (e, f)) = rw e (add-shift z lb f lz)
      out v q₁ b lb (inr (X, lX, x)) = rw x.0 (add-goto X b z lb x.1 lz)

      into : {q z v : ℕ} → Longer plain B claim L q z v
          → Among B.states (λ q₁. Among B.terminals (λ b v. ByShift B L q₁ b q v ⊎ Among B.nonterminals (ByGoto B claim L q₁ b q z) v)) v
      into (add-shift {q₁} {t} {q₂} z k e h) = (q₁, (r.shifts q₁ t q₂ e).0, (t, k, inl (refl, e)))
      into (add-goto {q₁} {q₂} X b z k g h) = let (l₁, lX, l₂) = r.gotos q₁ X q₂ g in (q₁, l₁, (b, k, inr (X, lX, (refl, g))))

  -- and what `layered` gives the layer
  pub layered-layer : (q a n : ℕ) → a < B.terminals → Layer plain B claim q a n (layered B claim q a n)
  unfolding layered
  layered-layer q a zero la q' z lz = go (ℕ_discrete q q') (ℕ_discrete a z)
    where
      go : Dec (q ≡ q') → Dec (a ≡ z) → Least plain (λ v. Claimed plain B claim q a v z 0 q') (cond (eqb q q' && eqb a z) 0 (unreached plain))
      go (yes i) (yes j) = rw (eq-eqb q q' i, eq-eqb a z j, ← i, ← j) (layer-here la)
      go (yes i) (no j) = rw (eq-eqb q q' i, ne_eqb a z j) (layer-elsewhere (λ x y. j y))
      go (no i) d = rw (ne_eqb q q' i) (layer-elsewhere (λ x y. i x))
  layered-layer q a (suc n) la q' z lz =
      let w = lengthened-least (layered B claim q a n) q' z lz in
      let any : Hereditary plain B (λ n q x. Unit) = record { before = λ v w h e c. tt } in
      let m = where-longer any (layer-where (λ n q x. Unit) (layered-layer q a n la)) (λ x c y l. w.below y l) w.attained in
      record { below = λ x c. m.below x c tt; attained = m.attained }

  -- the least of the roads
  pub road-least : (q X a z : ℕ) → a < B.terminals → z < B.terminals → Lowest (Road B claim q X a z) (unreached plain) (road_cost B claim q X a z)
  unfolding road_cost
  road-least q X a z la lz = lowest-map
      {P = Among B.states (RoadTo B claim q X a z)}
      (λ v x. record { production = x.2.0; last = x.0; road = x.2.3; reduced = x.2.1; left = x.2.2 })
      (λ v x. (x.last, (r.reduces x.last z x.production x.reduced).0, (x.production, x.reduced, x.left, x.road)))
      (least-below (unreached plain) B.states (λ last l. go last (B.act last z) refl))
    where
      found : (last p : ℕ) → B.act last z ≡ Reduce p → Dec (B.lhs p ≡ X)
          → Lowest (RoadTo B claim q X a z last) (unreached plain) (cond (eqb (B.lhs p) X) (layered B claim q a (B.len p) last z) (unreached plain))
      found last p e (yes i) =
          let m = layered-layer q a (B.len p) la last z lz in
          rw (eq-eqb (B.lhs p) X i) record {
            below = λ v (p', e', i', c). let j : p' ≡ p = cc in m.below v (rw j at c);
            attained = ⊎_elim inl (λ c. inr (p, e, i, c)) m.attained;
          }
      found last p e (no i) = rw (ne_eqb (B.lhs p) X i) (lowest-none (λ v (p', e', i', c). let j : p' ≡ p = cc in i (rw j at i')))

      go : (last : ℕ) (x : Action) → B.act last z ≡ x → Lowest (RoadTo B claim q X a z last) (unreached plain) (by_reduction B X (λ n. layered B claim q a n last z) x)
      go last Error e = lowest-none (λ v (p, f, i, c). clash (cc))
      go last Accept e = lowest-none (λ v (p, f, i, c). clash (cc))
      go last (Shift s) e = lowest-none (λ v (p, f, i, c). clash (cc))
      go last (Reduce p) e = found last p e (ℕ_discrete (B.lhs p) X)

-- ---- the conditions
exceeds-iff : {P : ℕ → Type 0} {x : ℕ} (claim : ℕ) → claim ≤ (unreached plain) → Lowest P (unreached plain) x → (ltb x claim ≡ true) ↔ Exceeds claim P
exceeds-iff {P} {x} claim h m = (λ e. over (ltb-true x claim e) m.attained, λ (v, p, l). lt-ltb x claim (omega (arith, m.below v p)))
  where
    over : x < claim → (x ≡ unreached plain) ⊎ P x → Exceeds claim P
    over l (inl e) = absurd (omega arith)
    over l (inr p) = (x, p, l)

less-iff : (x y : ℕ) → (ltb x y ≡ true) ↔ (x < y)
less-iff x y = (λ e. ltb-true x y e, λ h. lt-ltb x y h)

same-iff : (x y : ℕ) → (eqb x y ≡ true) ↔ (x ≡ y)
same-iff x y = (λ e. eqb-true x y e, λ h. eq-eqb x y h)

both_iff : {P Q : Type 0} (a b : Bool) → (a ≡ true) ↔ P → (b ≡ true) ↔ Q → ((a && b) ≡ true) ↔ (P × Q)
both_iff true b f g = (λ e. (f.0 refl, g.0 e), λ (p, q). g.1 q)
both_iff false b f g = (λ e. absurd (false≢true e), λ (p, q). absurd (false≢true (f.1 p)))

not_iff : {P : Type 0} (b : Bool) → (b ≡ true) ↔ P → (not b ≡ true) ↔ (¬ P)
not_iff true f = (λ e. absurd (false≢true e), λ n. absurd (n (f.0 refl)))
not_iff false f = (λ e p. false≢true (f.1 p), λ n. refl)

off-iff : (b : Bool) → (not b ≡ true) ↔ (b ≡ false)
off-iff true = (λ e. sym e, λ e. sym e)
off-iff false = (λ e. refl, λ e. refl)

within-iff : (x y : ℕ) → (leb x y ≡ true) ↔ (x ≤ y)
within-iff x y = (λ e. leb-true x y e, λ h. le-leb x y h)

module _ {B : Tables} (r : InRange B) (c : Certificate) where
  -- each condition, where those before it hold
  pub lowest-fault : (k : Condition) → Before (Fails B c) (order k) → Lowest (Fails B c k) (claim_count B) (lowest_fault B c k)
  lowest-fault Range f = lowest-join
      {P = AtCrossing B (λ q X a z. (unreached plain) < c.crossing q X a z)} {Q = AtPair B (λ s z. (unreached plain) < c.pair s z)}
      (λ i x. inl x)
      (λ i x. inr x)
      (λ i x. x)
      (lowest-crossing B (λ q X a z lq lX la lz. less-iff (unreached plain) (c.crossing q X a z)))
      (lowest-pair B (λ s z ls lz. less-iff (unreached plain) (c.pair s z)))
  lowest-fault Roads f = lowest-crossing B
      (λ q X a z lq lX la lz. exceeds-iff (c.crossing q X a z) (bounded q X a z lq lX la lz) (road-least r c.crossing q X a z la lz))
    where
      bounded : (q X a z : ℕ) → q < B.states → X < B.nonterminals → a < B.terminals → z < B.terminals → c.crossing q X a z ≤ (unreached plain)
      bounded q X a z lq lX la lz =
          let n : ¬ (unreached plain < c.crossing q X a z) = λ h. f Range (crossing_at B q X a z) (omega arith)
          (inl record { q = q; X = X; a = a; z = z; state = lq; nonterminal = lX; first = la; following = lz; index = refl; fails = h }) in
          omega arith
  lowest-fault Start f = lowest-pair B (λ s z ls lz. both_iff (eqb s 0) (not (eqb (c.pair s z) 0)) (same-iff s 0) (not_iff (eqb (c.pair s z) 0) (same-iff (c.pair s z) 0)))
  lowest-fault Transitions f = lowest-pair B
      (λ s z ls lz. exceeds-iff (c.pair s z) (bounded s z ls lz) (lengthened-least r c.crossing c.pair s z lz))
    where
      bounded : (s z : ℕ) → s < B.states → z < B.terminals → c.pair s z ≤ (unreached plain)
      bounded s z ls lz =
          let n : ¬ (unreached plain < c.pair s z) = λ h. f Range (crossing_count B + pair_at B s z) (omega arith)
          (inr record { s = s; z = z; state = ls; terminal = lz; index = refl; fails = h }) in
          omega arith
  lowest-fault Short f = lowest-pair B (λ s z ls lz. same-iff (c.pair s z) (long plain))
  lowest-fault Sentences f = lowest-pair B
      (λ s z ls lz. both_iff (leb (c.pair s z) plain.limit) (not (is_right B (c.sentence s z) z s (c.pair s z))) (within-iff (c.pair s z) plain.limit) (off-iff (is_right B (c.sentence s z) z s (c.pair s z))))

  -- the function gives the right verdict
  pub verdict-judged : Judged (Fails B c) (verdict B c)
  unfolding verdict
  verdict-judged = certificate-judged B c (lowest_fault B c) lowest-fault

-- ---- the call: exactly one answer is right
pub checking-checks : (cells crossings pairs bytes : List ℕ) → Checks cells crossings pairs bytes (checking cells crossings pairs bytes)
unfolding checking
checking-checks cells crossings pairs bytes = go (sentences_of cells crossings pairs bytes) refl
  where
    go : (x : Spelled) → sentences_of cells crossings pairs bytes ≡ x → Checks cells crossings pairs bytes (answer (tables_of cells) crossings pairs x)
    go (refused e) i = refuses e i
    go (spelled ws end) i =
        let a = spelled-admitted cells crossings pairs bytes ws end i in
        judges ws end _ i (verdict-judged (accepted-range a.d cells a.book) (certificate_in (tables_of cells) crossings pairs ws))

pub checks-iff : (cells crossings pairs bytes : List ℕ) (v : Result Verdict Refusal) → Checks cells crossings pairs bytes v ↔ (v ≡ checking cells crossings pairs bytes)
checks-iff cells crossings pairs bytes v = (
  λ x. checks-one x (checking-checks cells crossings pairs bytes),
  λ e. rw e (checking-checks cells crossings pairs bytes),
)
