-- Laws of the way down a stack: to come to an end within a bound is to stand where one fits, and the machine really comes to stand there.
-- Assumes nothing.
use Rattle.std.specs.Prelude.{List, [], ◌∷◌, ◌++◌, ◌↔◌, ◌≡◌, refl, ℕ, suc, ◌+◌, ◌-◌, ◌≤◌, ◌<◌, length, get_or, drop}
use Rattle.std.proofs.Common.{append_assoc, inr, ⊎_elim, sym, ap, ◌∙◌, subst, le_refl, le_trans, arith, length-drop, drop-cons, drop-drop, get_or-drop}
use Rattle.std.proofs.Math.Decide.{dec_lt}
use Rattle.book.specs.Tables.{Tables}
use Rattle.book.specs.declared.Action.TheVariants.{Reduce}
use Rattle.machine.specs.Machine.{Steps, done, then}
use Rattle.machine.specs.MachineLaws.{step-reduce, ◌⊕◌}
use Rattle.walk.specs.Walk.{Walk}
use Rattle.walk.proofs.WalkLaws.{walk-starts, walk-runs}
use Rattle.walk.specs.Scale.{Scale, unreached, cap}
use Rattle.walk.specs.Cost.{cost, Attained}
use Rattle.walk.specs.Sum.{plus}
use Rattle.walk.proofs.CostLaws.{plus-mono, plus_assoc, plus-bounded, plus-near, plus-far-left, plus-far-right, plus-zero, zero-plus, attained-plus}
use Rattle.walk.specs.Claims.{Claims, Claimed, ClaimedDescends, arriving, popping, Completes, Witnessed}
use Rattle.walk.proofs.ClaimsLaws.{claimed-bounded, witnessed-above}
use Rattle.waiting.specs.Completes.{Stands, top, falls, Standing, Event, Comes}

-- no part of a sum below unreached is unreached
pub near-right : (σ : Scale) (x y : ℕ) → plus σ x y < unreached σ → y < unreached σ
near-right σ x y h = go (dec_lt y (unreached σ))
  where
    go : Dec (y < unreached σ) → y < unreached σ
    go (yes l) = l
    go (no n) = absurd (omega (arith, plus-far-right σ x y (omega arith)))

pub zero-plus-le : (σ : Scale) (x : ℕ) → plus σ 0 x ≤ x
zero-plus-le σ x = go (dec_lt x (unreached σ))
  where
    go : Dec (x < unreached σ) → plus σ 0 x ≤ x
    go (yes l) = omega (arith, plus-near σ 0 x (omega arith) l)
    go (no n) = omega (arith, plus-far-right σ 0 x (omega arith))

-- a part of a sum is at most the sum
pub part-within : (σ : Scale) (x y r : ℕ) → r < unreached σ → plus σ x y ≤ r → x ≤ r
part-within σ x y r h l = go (dec_lt x (unreached σ)) (dec_lt y (unreached σ))
  where
    go : Dec (x < unreached σ) → Dec (y < unreached σ) → x ≤ r
    go (yes f) (yes g) = omega (arith, plus-near σ x y f g)
    go (yes f) (no g) = omega (arith, plus-far-right σ x y (omega arith))
    go (no f) g = omega (arith, plus-far-left σ x y (omega arith))

-- a sum within the limit is not capped
pub sum-within : (σ : Scale) (x y r : ℕ) → r ≤ σ.limit → plus σ x y ≤ r → x + y ≤ r
sum-within σ x y r g h = go (dec_lt x (unreached σ)) (dec_lt y (unreached σ))
  where
    go : Dec (x < unreached σ) → Dec (y < unreached σ) → x + y ≤ r
    go (yes l) (yes m) = omega (arith, plus-near σ x y l m)
    go (yes l) (no m) = omega (arith, plus-far-right σ x y (omega arith))
    go (no l) m = omega (arith, plus-far-left σ x y (omega arith))

-- what is left of the stack where a goto is made
uncovered : (st : List ℕ) (i k d : ℕ) → d ≡ i - 1 + k → d < length st → drop k (drop (i - 1) st) ≡ get_or st d 0 ∷ drop (suc d) st
uncovered st i k d e l = drop-drop k (i - 1) st ∙ ap (λ (n : ℕ). drop n st) (sym e) ∙ drop-cons st d 0 l

kept : (st : List ℕ) (d : ℕ) → d < length st → drop (suc d - 1) st ≡ get_or st d 0 ∷ drop (suc d) st
kept st d l = let i : suc d - 1 ≡ d = omega arith in ap (λ (n : ℕ). drop n st) i ∙ drop-cons st d 0 l

module _ {σ : Scale} {B : Tables} {claim : Claims} where
  pub stands-bounded : {q a i g b u : ℕ} {st : List ℕ} → Stands σ B claim q st a i g b u → u ≤ unreached σ
  stands-bounded top = omega arith
  stands-bounded (falls {u} d s p e l j) = rw p.sum (plus-bounded σ u p.taken)

  -- two ways down, one after the other
  stands-below : {q a d g b u : ℕ} {st : List ℕ} {j g' c w : ℕ} (m : ℕ) → m ≡ d + (j - 1) → Stands σ B claim q st a (suc d) g b u → Stands σ B claim g (drop d st) b j g' c w
      → Stands σ B claim q st a (suc m) g' c (plus σ u w)
  stands-below {d} {u} m i s top = let k : m ≡ d = omega arith in rw (k, plus-zero σ u (stands-bounded s)) s
  stands-below {d} {u} {st} m i s (falls {i = j} {u = u₁} {w} {g'} e s' p f l t) =
      let same : m ≡ d + e = omega arith in
      falls {w = plus σ u w} {g' = g'} m (stands-below (d + (j - 1)) refl s s')
      (record { taken = p.taken; count = p.count; last = p.last; production = p.production; walk = p.walk; action = p.action; left = p.left; longer = p.longer; sum = rw (p.sum, ← plus_assoc) })
      (omega arith) (omega (arith, length-drop d st)) (rw (same, ← get_or-drop) t)

  -- below the top the machine stands where a goto waits that is there
  pub event-stands : {q a d X c w g : ℕ} {st : List ℕ} → Event σ B claim q st a d X c w → d < length st → B.goto (get_or st d 0) X ≡ suc g → Stands σ B claim q st a (suc d) g c w
  event-stands {d} e l j = falls d e.stands e.pops e.depth l j

  -- one reduction that pops below the top
  stands_one : {q a v b n q₁ p q₂ g : ℕ} {st st₂ : List ℕ} (k : ℕ) → Claimed σ B claim q a v b n q₁ → B.act q₁ b ≡ Reduce p → B.len p ≡ n + suc k
      → drop k st ≡ q₂ ∷ st₂ → B.goto q₂ (B.lhs p) ≡ suc g → Stands σ B claim q st a (suc k) g b v
  stands_one {v} {n} {q₁} {p} {q₂} {g} {st} k c e l d j =
      let inside : k < length st = omega (arith, length-drop k st, ap length d) in
      let here : get_or st k 0 ≡ q₂ = cc (drop-cons st k 0 inside) in
      falls {X = B.lhs p} {g' = g} k top
      (record { taken = v; count = n; last = q₁; production = p; walk = c; action = e; left = refl; longer = l; sum = sym (zero-plus σ v (claimed-bounded c)) })
      (omega arith) inside (rw here j)

  module _ {End : ℕ → List ℕ → ℕ → ℕ → ℕ → Type 0} where
    -- the way on from where the machine stands is a way on from the stack
    stands_after : {q a : ℕ} {st : List ℕ} {i g b u x : ℕ} → Stands σ B claim q st a i g b u → ClaimedDescends σ B claim End (g ∷ drop (i - 1) st) b x → x ≤ unreached σ
        → ClaimedDescends σ B claim End (q ∷ st) a (plus σ u x)
    stands_after {x} top c h = rw (zero-plus σ x h) c
    stands_after {st} {x} (falls {i} {g = g₁} {b} {u} {k} {c = b₂} {g'} d s p e l j) c h =
        let rest : ClaimedDescends σ B claim End (g' ∷ get_or st d 0 ∷ drop (suc d) st) b₂ x = subst (λ (t : List ℕ). ClaimedDescends σ B claim End (g' ∷ t) b₂ x) (kept st d l) c in
        let y : ClaimedDescends σ B claim End (g₁ ∷ drop (i - 1) st) b (plus σ p.taken x) = popping {g = g'} k p.walk p.action p.longer (uncovered st i k d e l) (rw p.left j) rest in
        rw (p.sum, plus_assoc) (stands_after s y (plus-bounded σ p.taken x))

    -- and every way on is one from where the machine stands, without further pops
    standing-more : {q a k g b v x : ℕ} {st t : List ℕ} → drop k st ≡ t → Stands σ B claim q st a (suc k) g b v → Standing σ B claim End g t b x
        → Standing σ B claim End q st a (plus σ v x)
    standing-more {q} {a} {k} {g} {b} {v} {x} {st} {t} d one s =
        let j = s.index - 1 in
        let same : suc (k + j) - 1 ≡ k + j = omega arith in
        let down : drop j t ≡ drop (suc (k + j) - 1) st = ap (λ (l : List ℕ). drop j l) (sym d) ∙ drop-drop j k st ∙ ap (λ (n : ℕ). drop n st) (sym same) in
        record {
          index = suc (k + j);
          state = s.state;
          first = s.first;
          cost = plus σ v s.cost;
          rest = s.rest;
          pushed = s.pushed;
          stands = stands-below (k + j) refl one (rw (← d) at s.stands);
          over = rw down at s.over;
          within = rw plus_assoc (plus-mono σ (le_refl v) s.within);
        }

    descends-stands : {q a v : ℕ} {st : List ℕ} → ClaimedDescends σ B claim End (q ∷ st) a v → Standing σ B claim End q st a v
    descends-stands (arriving {q} {a} {v} {n} e) =
        record { index = 0; state = q; first = a; cost = 0; rest = v; pushed = n; stands = top; over = e; within = zero-plus-le σ v }
    descends-stands (popping k c e l d j r) = standing-more d (stands_one k c e l d j) (descends-stands r)

    -- so an end is come to within a bound exactly if the machine comes to stand where one is within it
    pub descends-stands-iff : {r q a : ℕ} {st : List ℕ} → r < unreached σ → ((v : ℕ) × ClaimedDescends σ B claim End (q ∷ st) a v × (v ≤ r)) ↔ Standing σ B claim End q st a r
    descends-stands-iff h = (
      λ (v, c, l). let s = descends-stands c in record { index = s.index; state = s.state; first = s.first; cost = s.cost; rest = s.rest; pushed = s.pushed; stands = s.stands; over = s.over; within = le_trans s.within l },
      λ s. let near = near-right σ s.cost s.rest (omega (arith, s.within)) in (plus σ s.cost s.rest, stands_after s.stands (arriving s.over) (omega arith), s.within),
    )

  -- for costs to go: where the cost so far and the cost to go are within the bound
  pub completes-stands-iff : {E : List ℕ → ℕ → ℕ → ℕ} {r q a : ℕ} {st : List ℕ} → r < unreached σ
      → ((v : ℕ) × Completes σ B claim E (q ∷ st) a v × (v ≤ r)) ↔ ((i g b u : ℕ) × Stands σ B claim q st a i g b u × (plus σ u (E (drop (i - 1) st) g b) ≤ r))
  completes-stands-iff h = (
    λ x. let s = (descends-stands-iff h).0 x in (s.index, s.state, s.first, s.cost, s.stands, rw s.over at s.within),
    λ (i, g, b, u, s, l). (descends-stands-iff h).1 (record { index = i; state = g; first = b; cost = u; rest = _; pushed = 0; stands = s; over = refl; within = l }),
  )

-- ---- the machine comes to stand there
module _ {B : Tables} where
  comes-falls : {q a i g b d X c n q₁ p g' : ℕ} {st x y : List ℕ} (k : ℕ) → Comes B q st a i g b x → Walk B g b y c n q₁ → B.act q₁ c ≡ Reduce p → B.lhs p ≡ X → B.len p ≡ n + suc k
      → d ≡ i - 1 + k → d < length st → B.goto (get_or st d 0) X ≡ suc g' → Comes B q st a (suc d) g' c (x ++ y)
  comes-falls {i} {d} {c} {g'} {st} {x} {y} k m w e f l j h g = record {
    starts = λ u. let (u₂, s) = walk-starts w u in let (u₁, t) = m.starts u₂ in (u₁, rw (append_assoc, s) t);
    run = λ u.
        let (u₂, s) = walk-starts w u in
        let r = walk-runs w (drop (i - 1) st) u in
        rw (kept st d h, append_assoc, s)
        (m.run u₂ ⊕ rw s at r.run ⊕ then (step-reduce e (rw (l, ← drop-drop, r.popped) (uncovered st i k d j h)) (rw f g)) done);
  }

module _ {σ : Scale} {B : Tables} {claim : Claims} where
  pub stands-comes : {q a : ℕ} {st : List ℕ} {i g b u : ℕ} → Witnessed σ B claim → Stands σ B claim q st a i g b u → Attained σ (Comes B q st a i g b) u
  stands-comes k top = inr ([], record { starts = λ u. (u, refl); run = λ u. done }, omega arith)
  stands-comes k (falls {k = m} d s p e l j) =
      rw p.sum (attained-plus σ (λ x y r w. comes-falls m r w p.action p.left p.longer e l j) (stands-comes k s) (witnessed-above k p.walk))

  -- at no cost, nothing is taken in
  pub stands-still : {q a i g b : ℕ} {st : List ℕ} → Witnessed σ B claim → Stands σ B claim q st a i g b 0 → (b ≡ a) × ((u : List ℕ) → Steps B (q ∷ st) (a ∷ u) (g ∷ drop (i - 1) st) (a ∷ u))
  stands-still {q} {a} {i} {g} {b} {st} k s = ⊎_elim (λ e. absurd (omega arith)) (λ (w, m, e). go w m e) (stands-comes k s)
    where
      go : (w : List ℕ) → Comes B q st a i g b w → 0 ≡ cap σ (cost σ w) → (b ≡ a) × ((u : List ℕ) → Steps B (q ∷ st) (a ∷ u) (g ∷ drop (i - 1) st) (a ∷ u))
      go [] m e = let (u, f) = m.starts [] in let same : b ≡ a = cc in (same, λ u. rw same at (m.run u))
      go (t ∷ w) m e = absurd (omega arith)
