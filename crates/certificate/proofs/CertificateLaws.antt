-- Laws of certificates: at most one verdict is right, what is accepted is the true map, and a true certificate is accepted. Assumes nothing.
use Rattle.std.specs.Prelude.{Bool, true, false, ◌&&◌, List, [], ◌∷◌, ◌≢◌, ◌≡◌, refl, ℕ, suc, ◌+◌, ◌≤◌, ◌<◌, eqb, length}
use Rattle.std.proofs.lemmas.Bool.{false≢true}
use Rattle.std.proofs.Common.{inl, inr, ⊎_elim, sym, ◌∙◌, le_trans, le_refl, arith, eqb-true, eq-eqb}
use Rattle.std.proofs.Math.Decide.{dec_le, ℕ_discrete}
use Rattle.book.specs.Tables.{Tables}
use Rattle.book.specs.TablesLaws.{InRange}
use Rattle.machine.specs.Machine.{Reaches}
use Rattle.walk.specs.Walk.{here, shifted, crossed}
use Rattle.walk.proofs.WalkLaws.{reaches-walk, walk-reaches}
use Rattle.walk.specs.Scale.{plain, long, unreached, cap}
use Rattle.walk.specs.Cost.{cost, Attained, Exact}
use Rattle.walk.proofs.CostLaws.{plus-mono, attained-map, attained-plus}
use Rattle.walk.specs.Claims.{Crosses, Claimed, none, shifting, crossing, Closed, Witnessed}
use Rattle.walk.proofs.ShortestLaws.{cost-length}
use Rattle.walk.proofs.ClaimsLaws.{claimed-next, claimed-terminal, closed-below, witnessed-above}
use Rattle.walk.specs.Layers.{Longer, add-shift, add-goto}
use Rattle.within.specs.Within.{reaches_within}
use Rattle.within.proofs.WithinLaws.{within-reaches}
use Rattle.certificate.specs.Certificate.{Certificate, crossing_at, crossing_count, pair_at, Road, AtPair, Fails, Judged, accepts, TrueMap, True}
use Rattle.certificate.specs.declared.Condition.{Condition}
use Rattle.certificate.specs.declared.Condition.TheVariants.{Range, Roads, Start, Transitions, Short, Sentences}
use Rattle.certificate.specs.declared.Verdict.TheVariants.{Accepted}

-- ---- a sentence
right_is : (a b : Bool) → (a && b) ≢ false → (a ≡ true) × (b ≡ true)
right_is true true n = (refl, refl)
right_is true false n = absurd (n refl)
right_is false b n = absurd (n refl)

-- ---- what is accepted
pair-here : {B : Tables} {P : ℕ → ℕ → Type 0} {s z : ℕ} → s < B.states → z < B.terminals → P s z → AtPair B P (crossing_count B + pair_at B s z)
pair-here {s} {z} ls lz x = record { s = s; z = z; state = ls; terminal = lz; index = refl; fails = x }

module _ {B : Tables} (c : Certificate) (i : InRange B) (ok : (k : Condition) (j : ℕ) → ¬ Fails B c k j) where
  -- no claim of a crossing exceeds a road, and so the claims of gotos that are there are closed
  accepted-road : {q X a z v : ℕ} → q < B.states → Road B c.crossing q X a z v → c.crossing q X a z ≤ v
  accepted-road {q} {X} {a} {z} {v} lq r =
      let n : ¬ (v < c.crossing q X a z) = λ h. ok Roads (crossing_at B q X a z) record {
        q = q;
        X = X;
        a = a;
        z = z;
        state = lq;
        nonterminal = rw r.left at (i.reduces r.last z r.production r.reduced).2;
        first = claimed-terminal r.road;
        following = claimed-next r.road;
        index = refl;
        fails = (v, r, h);
      } in
      omega arith

  pub accepted-closed : Closed plain B c.crossing
  accepted-closed = record { bound = λ {q} {p} {q₂} {g} r e t. accepted-road (i.gotos q (B.lhs p) g t).0 (record { production = p; last = q₂; road = r; reduced = e; left = refl }) }

  -- no words of a crossing, its goto there or none, cost less than its claim
  pub accepted-crossing : {q X a z : ℕ} {w : List ℕ} → q < B.states → z < B.terminals → Crosses B q X a z w → c.crossing q X a z ≤ cap plain (cost plain w)
  accepted-crossing lq lz m =
      let (v, r, h) = closed-below i accepted-closed lz m.walk in
      le_trans (accepted-road lq (record { production = m.production; last = m.last; road = r; reduced = m.action; left = m.left })) h

  -- a pair that fails nothing
  module _ (s z : ℕ) (ls : s < B.states) (lz : z < B.terminals) where
    pub accepted-in-range : c.pair s z ≤ unreached plain
    accepted-in-range =
        let n : ¬ (unreached plain < c.pair s z) = λ h. ok Range (crossing_count B + pair_at B s z) (inr (pair-here ls lz h)) in
        omega arith

    pub accepted-start : s ≡ 0 → c.pair s z ≡ 0
    accepted-start e = go (ℕ_discrete (c.pair s z) 0)
      where
        go : Dec (c.pair s z ≡ 0) → c.pair s z ≡ 0
        go (yes h) = h
        go (no h) = absurd (ok Start (crossing_count B + pair_at B s z) (pair-here ls lz (e, h)))

    pub accepted-transition : {v : ℕ} → Longer plain B c.crossing c.pair s z v → c.pair s z ≤ v
    accepted-transition {v} l =
        let n : ¬ (v < c.pair s z) = λ h. ok Transitions (crossing_count B + pair_at B s z) (pair-here ls lz (v, l, h)) in
        omega arith

    pub accepted-short : c.pair s z ≢ long plain
    accepted-short e = ok Short (crossing_count B + pair_at B s z) (pair-here ls lz e)

    pub accepted-sentence : c.pair s z ≤ plain.limit → (length (c.sentence s z) ≡ c.pair s z) × (reaches_within B (c.sentence s z) z s ≡ true)
    accepted-sentence h =
        let (e, r) = right_is (eqb (length (c.sentence s z)) (c.pair s z)) (reaches_within B (c.sentence s z) z s)
        (λ f. ok Sentences (crossing_count B + pair_at B s z) (pair-here ls lz (h, f))) in
        (eqb-true _ _ e, r)

  -- from the start no walk costs less than the claim of where it leads
  start-below : {q a v z n s : ℕ} → q ≡ 0 → Claimed plain B c.crossing q a v z n s → s < B.states → c.pair s z ≤ v
  start-below {q} {z} e (none h) l = omega (arith, accepted-start q z l h e)
  start-below e (shifting {t} {q₁} {q₂} z r f h) l =
      let (l₁, some, lt, l₂) = i.shifts q₁ t q₂ f in
      le_trans (accepted-transition q₂ z l₂ h (add-shift z (claimed-next r) f h)) (plus-mono plain (start-below e r l₁) (le_refl 1))
  start-below e (crossing {b} {q₁} {q₂} X z r g h) l =
      let (l₁, lX, l₂) = i.gotos q₁ X q₂ g in
      le_trans (accepted-transition q₂ z l₂ h (add-goto X b z (claimed-next r) g h)) (plus-mono plain (start-below e r l₁) (le_refl _))

  -- *sound*: what is accepted is the true map
  pub sound : TrueMap B c.pair
  sound s z ls lz = record { least = least; attained = go (dec_le (c.pair s z) plain.limit) }
    where
      least : (w : List ℕ) → Reaches B w z s → c.pair s z ≤ cap plain (cost plain w)
      least w r =
          let (n, t) = reaches-walk r in
          let (v, x, h) = closed-below i accepted-closed lz t in
          le_trans (start-below refl x ls) h

      go : Dec (c.pair s z ≤ plain.limit) → Attained plain (λ w. Reaches B w z s) (c.pair s z)
      go (yes h) =
          let (e, r) = accepted-sentence s z ls lz h in
          inr (c.sentence s z, within-reaches B (c.sentence s z) z s i r, omega (arith, cost-length (c.sentence s z)))
      go (no h) =
          let m = accepted-in-range s z ls lz in
          let n = accepted-short s z ls lz in
          inl (omega arith)

  -- so it is a true certificate, but for crossings whose claims are too low
  pub accepted-true : ((q X a z : ℕ) → q < B.states → X < B.nonterminals → a < B.terminals → z < B.terminals → Exact plain (Crosses B q X a z) (c.crossing q X a z)) → True B c
  accepted-true e = record {
    crossings = e;
    pairs = sound;
    short = accepted-short;
    lengths = λ s z ls lz h. (accepted-sentence s z ls lz h).0;
    within = λ s z ls lz h. (accepted-sentence s z ls lz h).1;
  }

-- ---- what must be accepted
exact-bounded : {P : List ℕ → Type 0} {v : ℕ} → Exact plain P v → v ≤ unreached plain
exact-bounded {P} {v} e = ⊎_elim (λ h. omega arith) (λ (w, p, h). omega arith) e.attained

-- no claim that is exact exceeds what is attained
exact-least : {P : List ℕ → Type 0} {u v : ℕ} → Exact plain P u → Attained plain P v → u ≤ v
exact-least {P} {u} {v} e a = ⊎_elim (λ h. omega (arith, exact-bounded e)) (λ (w, p, h). omega (arith, e.least w p)) a

module _ {B : Tables} {c : Certificate} (i : InRange B) (t : True B c) where
  -- the claims of gotos that are there are what crossings cost
  pub true-witnessed : Witnessed plain B c.crossing
  true-witnessed = record { witness = λ q X a z {g} ha hz e. witness q X a z g ha hz e }
    where
      witness : (q X a z g : ℕ) → a < B.terminals → z < B.terminals → B.goto q X ≡ suc g → Attained plain (Crosses B q X a z) (c.crossing q X a z)
      witness q X a z g ha hz e =
          let (lq, lX, lg) = i.gotos q X g e in
          (t.crossings q X a z lq lX ha hz).attained

  -- a road is what some words cost
  road-attained : {q X a z v : ℕ} → Road B c.crossing q X a z v → Attained plain (Crosses B q X a z) v
  road-attained r = attained-map plain
      (λ w k. record { production = r.production; last = r.last; walk = k; action = r.reduced; left = r.left })
      (witnessed-above true-witnessed r.road)

  -- one transition more than a true pair is what some words that reach cost
  longer-attained : {s z v : ℕ} → Longer plain B c.crossing c.pair s z v → Attained plain (λ w. Reaches B w z s) v
  longer-attained (add-shift {q₁} {t = a} {q₂} z ha e hz) =
      let (l₁, some, la, l₂) = i.shifts q₁ a q₂ e in
      attained-plus plain {Q = λ y. y ≡ a ∷ []}
      (λ w y r f. let (n, k) = reaches-walk r in rw f (walk-reaches i (shifted z k e)))
      (t.pairs q₁ a l₁ ha).attained
      (inr (a ∷ [], refl, refl))
  longer-attained (add-goto {q₁} {q₂} X b z hb g hz) =
      let (l₁, lX, l₂) = i.gotos q₁ X q₂ g in
      attained-plus plain
      (λ w y r x. let (n, k) = reaches-walk r in walk-reaches i (crossed k x.walk x.action refl (rw x.left g)))
      (t.pairs q₁ b l₁ hb).attained
      (true-witnessed.witness q₁ X b z hb hz g)

  true-holds : (k : Condition) (j : ℕ) → ¬ Fails B c k j
  true-holds Range j x = ⊎_elim
      (λ y. omega (arith, y.fails, exact-bounded (t.crossings y.q y.X y.a y.z y.state y.nonterminal y.first y.following)))
      (λ y. omega (arith, y.fails, exact-bounded (t.pairs y.s y.z y.state y.terminal)))
      x
  true-holds Roads j x =
      let (v, r, h) = x.fails in
      omega (arith, exact-least (t.crossings x.q x.X x.a x.z x.state x.nonterminal x.first x.following) (road-attained r))
  true-holds Start j x =
      let (e, n) = x.fails in
      n (omega (arith, (t.pairs x.s x.z x.state x.terminal).least [] (rw e (walk-reaches i here))))
  true-holds Transitions j x =
      let (v, l, h) = x.fails in
      omega (arith, exact-least (t.pairs x.s x.z x.state x.terminal) (longer-attained l))
  true-holds Short j x = t.short x.s x.z x.state x.terminal x.fails
  true-holds Sentences j x =
      let (h, f) = x.fails in
      let e = t.lengths x.s x.z x.state x.terminal h in
      let r = t.within x.s x.z x.state x.terminal h in
      false≢true (sym f ∙ rw (eq-eqb _ _ e) r)

  -- *complete*: a true certificate without long plain pairs, whose sentences reach within the limits, is accepted
  pub complete : Judged (Fails B c) Accepted
  complete = accepts true-holds
