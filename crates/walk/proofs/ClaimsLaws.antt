-- Laws of claims: closed claims are at most the true costs, closed and witnessed claims are exact, and so is what is least over them. Assumes nothing.
use Rattle.std.specs.Prelude.{List, [], ◌∷◌, ◌⊎◌, ◌↔◌, ◌≡◌, refl, ℕ, suc, ◌+◌, ◌≤◌, ◌<◌}
use Rattle.std.proofs.Common.{inl, inr, ⊎_elim, sym, ◌∙◌, le_trans, le_refl, add-zero, add-suc, arith}
use Rattle.std.proofs.Math.Logic.{⊎_map}
use Rattle.book.specs.Tables.{Tables}
use Rattle.book.specs.TablesLaws.{InRange}
use Rattle.book.specs.declared.Action.TheVariants.{Shift, Reduce}
use Rattle.machine.specs.Machine.{Reaches}
use Rattle.walk.specs.Walk.{Walk, here, shifted, crossed, WalksTo, first, Descends, arrives, pops, Gets, GetsTo}
use Rattle.walk.specs.WalkLaws.{Opens, empties}
use Rattle.walk.proofs.WalkLaws.{walk_begins, walk-terminal, descends-terminal, reaches-walk, walk-reaches}
use Rattle.walk.specs.Scale.{Scale, unreached, cap}
use Rattle.walk.specs.Cost.{cost, Attained, Exact}
use Rattle.walk.proofs.CostLaws.{plus-mono, plus-far-right, plus-right-within, plus-bounded, plus-zero, zero-plus, plus_comm, plus_assoc, plus-cost-le, attained-map, attained-plus}
use Rattle.walk.specs.Claims.{Crosses, Claims, Claimed, none, shifting, crossing, Closed, Witnessed, Least, Arrival, OnwardTo, Weighs, Onward, ClaimedDescends, arriving, popping, ClaimedGets, ClaimedGetsTo, Matches, Serves}
use Rattle.walk.proofs.MatchesLaws.{matches-exact}
use Rattle.walk.specs.Sum.{shift_cost, plus}
use Rattle.walk.specs.ClaimsLaws.{Start, nowhere, shift-first, goto-first}

-- what a transition, and a reduction, make of the cost of some walk is the cost of some walk, and of some crossing
module _ (σ : Scale) {B : Tables} where
  pub attained-shift : {q a v t n q₁ q₂ : ℕ} (z : ℕ) → Attained σ (λ w. Walk B q a w t n q₁) v → B.act q₁ t ≡ Shift q₂
      → Attained σ (λ w. Walk B q a w z (suc n) q₂) (plus σ v (shift_cost σ t))
  attained-shift {t} z x e = attained-plus σ {Q = λ y. y ≡ t ∷ []} (λ w y r i. rw i (shifted z r e)) x (inr (t ∷ [], refl, omega arith))

  pub attained-cross : {q a v b n q₁ X x z g : ℕ} → Attained σ (λ w. Walk B q a w b n q₁) v → Attained σ (Crosses B q₁ X b z) x → B.goto q₁ X ≡ suc g
      → Attained σ (λ w. Walk B q a w z (suc n) g) (plus σ v x)
  attained-cross a b g = attained-plus σ (λ w y r c. crossed r c.walk c.action refl (rw c.left g)) a b

  pub attained-crossing : {q a v z p q₂ : ℕ} → Attained σ (λ w. Walk B q a w z (B.len p) q₂) v → B.act q₂ z ≡ Reduce p → Attained σ (Crosses B q (B.lhs p) a z) v
  attained-crossing {p} {q₂} x e = attained-map σ (λ w r. record { production = p; last = q₂; walk = r; action = e; left = refl }) x

one-add : (n : ℕ) → 1 + n ≡ suc n
one-add n = omega arith

module _ {σ : Scale} {B : Tables} {claim : Claims} where
  -- a claimed walk has a terminal next, costs at most unreached, and can be followed by another
  pub claimed-next : {q a v z n q' : ℕ} → Claimed σ B claim q a v z n q' → z < B.terminals
  claimed-next (none h) = h
  claimed-next (shifting z c e h) = h
  claimed-next (crossing X z c g h) = h

  pub claimed-terminal : {q a v z n q' : ℕ} → Claimed σ B claim q a v z n q' → a < B.terminals
  claimed-terminal (none h) = h
  claimed-terminal (shifting z c e h) = claimed-terminal c
  claimed-terminal (crossing X z c g h) = claimed-terminal c

  pub claimed-bounded : {q a v z n q' : ℕ} → Claimed σ B claim q a v z n q' → v ≤ unreached σ
  claimed-bounded (none h) = omega arith
  claimed-bounded (shifting z c e h) = plus-bounded σ _ _
  claimed-bounded (crossing X z c g h) = plus-bounded σ _ _

  pub claimed-append : {q a v b n q₁ x z m q₂ : ℕ} → Claimed σ B claim q a v b n q₁ → Claimed σ B claim q₁ b x z m q₂ → Claimed σ B claim q a (plus σ v x) z (n + m) q₂
  claimed-append {v} c (none h) = rw (plus-zero σ v (claimed-bounded c), add-zero) c
  claimed-append c (shifting z d e h) = rw (← plus_assoc, add-suc) (shifting z (claimed-append c d) e h)
  claimed-append c (crossing X z d g h) = rw (← plus_assoc, add-suc) (crossing X z (claimed-append c d) g h)

  -- from a state it leads to a state
  pub claimed-state : {q a v z n q' : ℕ} → InRange B → q < B.states → Claimed σ B claim q a v z n q' → q' < B.states
  claimed-state i h (none j) = h
  claimed-state i h (shifting {t} {q₁} {q₂} z c e j) = (i.shifts q₁ t q₂ e).3
  claimed-state i h (crossing {q₁} {q₂} X z c g j) = (i.gotos q₁ X q₂ g).2

  -- one transition in front
  pub claimed-shift : {q a q₁ b v z n q' : ℕ} → B.act q a ≡ Shift q₁ → a < B.terminals → Claimed σ B claim q₁ b v z n q' → Claimed σ B claim q a (plus σ (shift_cost σ a) v) z (suc n) q'
  claimed-shift {a} {b} {n} e h c =
      let one : plus σ 0 (shift_cost σ a) ≡ shift_cost σ a = zero-plus σ (shift_cost σ a) (omega arith) in
      rw (← one, ← one-add n) (claimed-append (shifting b (none h) e (claimed-terminal c)) c)

  pub claimed-goto : {q a q₁ b v z n q' : ℕ} (X : ℕ) → B.goto q X ≡ suc q₁ → a < B.terminals → Claimed σ B claim q₁ b v z n q'
      → Claimed σ B claim q a (plus σ (claim q X a b) v) z (suc n) q'
  claimed-goto {q} {a} {b} {v} {n} X g h c =
      let x = claim q X a b in
      let e : plus σ (plus σ 0 x) v ≡ plus σ x v = rw plus_assoc (zero-plus σ (plus σ x v) (plus-bounded σ x v)) in
      rw (← e, ← one-add n) (claimed-append (crossing X b (none h) g (claimed-terminal c)) c)

  -- every claimed walk begins so, or is none; the last transition of one is its constructor
  start-shift : {q a v t z n q₁ q₂ : ℕ} → Start σ B claim q a v t n q₁ → B.act q₁ t ≡ Shift q₂ → z < B.terminals → Start σ B claim q a (plus σ v (shift_cost σ t)) z (suc n) q₂
  start-shift {a} nowhere e h = rw (plus_comm σ 0 (shift_cost σ a)) (shift-first e (none h))
  start-shift {z} (shift-first f c) e h = rw plus_assoc (shift-first f (shifting z c e h))
  start-shift {z} (goto-first X f c) e h = rw plus_assoc (goto-first X f (shifting z c e h))

  start-goto : {q a v b z n q₁ q₂ : ℕ} (X : ℕ) → Start σ B claim q a v b n q₁ → B.goto q₁ X ≡ suc q₂ → z < B.terminals
      → Start σ B claim q a (plus σ v (claim q₁ X b z)) z (suc n) q₂
  start-goto {q} {a} {z} X nowhere g h = rw (plus_comm σ 0 (claim q X a z)) (goto-first X g (none h))
  start-goto {z} X (shift-first f c) g h = rw plus_assoc (shift-first f (crossing X z c g h))
  start-goto {z} X (goto-first Y f c) g h = rw plus_assoc (goto-first Y f (crossing X z c g h))

  pub claimed-start : {q a v z n q' : ℕ} → Claimed σ B claim q a v z n q' → Start σ B claim q a v z n q'
  claimed-start (none h) = nowhere
  claimed-start (shifting z c e h) = start-shift (claimed-start c) e h
  claimed-start (crossing X z c g h) = start-goto X (claimed-start c) g h

  bound_at : {q a v z p m q₂ g : ℕ} → Closed σ B claim → B.len p ≡ m → Claimed σ B claim q a v z m q₂ → B.act q₂ z ≡ Reduce p → B.goto q (B.lhs p) ≡ suc g
      → claim q (B.lhs p) a z ≤ v
  bound_at k l c e g = k.bound (rw (← l) at c) e g

  -- (i) closed claims are at most the true costs
  pub closed-below : {q a z n q' : ℕ} {w : List ℕ} → InRange B → Closed σ B claim → z < B.terminals → Walk B q a w z n q'
      → (v : ℕ) × Claimed σ B claim q a v z n q' × (v ≤ cap σ (cost σ w))
  closed-below i k h here = (0, none h, omega arith)
  closed-below i k h (shifted {t} {q₁} {q₂} {w} z r e) =
      let (v, c, l) = closed-below i k (i.shifts q₁ t q₂ e).2 r in
      (plus σ v (shift_cost σ t), shifting z c e h, plus-cost-le σ w (t ∷ []) l (omega arith))
  closed-below i k h (crossed {b} {z} {q₁} {p} {w} {v} r r' e l g) =
      let (x, c, f) = closed-below i k (walk-terminal i h r') r in
      let (y, d, j) = closed-below i k h r' in
      (plus σ x (claim q₁ (B.lhs p) b z), crossing (B.lhs p) z c g h, plus-cost-le σ w v f (le_trans (bound_at k l d e g) j))

  -- (ii) witnessed claims are true costs
  pub witnessed-above : {q a v z n q' : ℕ} → Witnessed σ B claim → Claimed σ B claim q a v z n q' → Attained σ (λ w. Walk B q a w z n q') v
  witnessed-above k (none h) = inr ([], here, omega arith)
  witnessed-above k (shifting z c e h) = attained-shift σ z (witnessed-above k c) e
  witnessed-above k (crossing {b} {q₁} X z c g h) = attained-cross σ (witnessed-above k c) (k.witness q₁ X b z (claimed-next c) h g) g

  -- where the action neither shifts nor reduces an empty production, nothing but the empty walk is claimed below unreached
  pub claimed-begins : {q a v z n q' : ℕ} → Witnessed σ B claim → Claimed σ B claim q a v z n q' → ((n ≡ 0) × (q ≡ q') × (a ≡ z)) ⊎ ((v ≡ unreached σ) ⊎ Opens B q a)
  claimed-begins k c = ⊎_elim (λ h. inr (inl h)) (λ (w, r, h). ⊎_map (λ x. x) inr (walk_begins r)) (witnessed-above k c)

  -- so a pass may leave out such a row (q, a): its claims are unreached, and closed
  pub unopened-unreached : {q X a z g : ℕ} → Witnessed σ B claim → ¬ Opens B q a → a < B.terminals → z < B.terminals → B.goto q X ≡ suc g → claim q X a z ≡ unreached σ
  unopened-unreached {q} {X} {a} {z} k o ha hz g = ⊎_elim
      (λ e. e)
      (λ (w, x, e). absurd (o (⊎_elim (λ (i, j, l). rw (j, l) (empties x.action i)) (λ y. y) (walk_begins x.walk))))
      (k.witness q X a z ha hz g)

  pub unopened-closed : {q a v z p q₂ g : ℕ} → Witnessed σ B claim → ¬ Opens B q a → Claimed σ B claim q a v z (B.len p) q₂ → B.act q₂ z ≡ Reduce p
      → B.goto q (B.lhs p) ≡ suc g → claim q (B.lhs p) a z ≤ v
  unopened-closed k o c e g =
      let u = unopened-unreached k o (claimed-terminal c) (claimed-next c) g in
      ⊎_elim
      (λ (i, j, l). absurd (o (rw (j, l) (empties e i))))
      (λ x. ⊎_elim (λ h. omega arith) (λ y. absurd (o y)) x)
      (claimed-begins k c)

  -- the same two for what is done from any stack, where they hold of the end
  pub closed-descends-below : {K : ℕ → List ℕ → ℕ → ℕ → ℕ → Type 0} {E : ℕ → List ℕ → ℕ → List ℕ → ℕ → Type 0} {a : ℕ} {st w : List ℕ} → InRange B → Closed σ B claim
      → ((q : ℕ) (st : List ℕ) (a : ℕ) (w : List ℕ) (n : ℕ) → E q st a w n → a < B.terminals)
      → ((q : ℕ) (st : List ℕ) (a : ℕ) (w : List ℕ) (n : ℕ) → E q st a w n → (v : ℕ) × K q st a v n × (v ≤ cap σ (cost σ w))) → Descends B E st a w
      → (v : ℕ) × ClaimedDescends σ B claim K st a v × (v ≤ cap σ (cost σ w))
  closed-descends-below i k t f (arrives {q} {a} {n} {st} {w} r) = let (v, c, l) = f q st a w n r in (v, arriving c, l)
  closed-descends-below i k t f (pops {w} {v} m r e h d g c) =
      let (x, a, j) = closed-below i k (descends-terminal i t c) r in
      let (y, b, l) = closed-descends-below i k t f c in
      (plus σ x y, popping m a e h d g b, plus-cost-le σ w v j l)

  pub witnessed-descends-above : {K : ℕ → List ℕ → ℕ → ℕ → ℕ → Type 0} {E : ℕ → List ℕ → ℕ → List ℕ → ℕ → Type 0} {a v : ℕ} {st : List ℕ} → Witnessed σ B claim
      → ((q : ℕ) (st : List ℕ) (a v n : ℕ) → K q st a v n → Attained σ (λ w. E q st a w n) v) → ClaimedDescends σ B claim K st a v → Attained σ (Descends B E st a) v
  witnessed-descends-above k f (arriving {q} {a} {v} {n} {st} c) = attained-map σ (λ w r. arrives r) (f q st a v n c)
  witnessed-descends-above k f (popping m c e h d g b) = attained-plus σ (λ w u r t. pops m r e h d g t) (witnessed-above k c) (witnessed-descends-above k f b)

  -- so to bring a state on top
  pub closed-gets-below : {s z a : ℕ} {st w : List ℕ} → InRange B → Closed σ B claim → z < B.terminals → Gets B s z st a w
      → (v : ℕ) × ClaimedGets σ B claim s z st a v × (v ≤ cap σ (cost σ w))
  closed-gets-below i k h g = closed-descends-below i k (λ q st a w n r. walk-terminal i h r) (λ q st a w n r. closed-below i k h r) g

  pub witnessed-gets-above : {s z a v : ℕ} {st : List ℕ} → Witnessed σ B claim → ClaimedGets σ B claim s z st a v → Attained σ (Gets B s z st a) v
  witnessed-gets-above k c = witnessed-descends-above k (λ q st a v n c. witnessed-above k c) c

-- where the ends of a table serve up to a bound, so do the descents
module _ {σ : Scale} {B : Tables} {claim : Claims} {r : ℕ} {J K : ℕ → List ℕ → ℕ → ℕ → ℕ → Type 0} (i : InRange B) (near : r < unreached σ) (t : Serves B r J K) where
  serves-lower : {q a v : ℕ} {st : List ℕ} → q < B.states → a < B.terminals → v ≤ r → ClaimedDescends σ B claim K (q ∷ st) a v
      → (x : ℕ) × ClaimedDescends σ B claim J (q ∷ st) a x × (x ≤ v)
  serves-lower hq ha h (arriving x) = let (y, m, j, l) = t.lower hq ha h x in (y, arriving j, l)
  serves-lower hq ha h (popping {v} {x} {q₂} {g} k c e l d j b) =
      let (y, z, m) = serves-lower (i.gotos q₂ _ g j).2 (claimed-next c) (plus-right-within σ v x r near h) b in
      (plus σ v y, popping k c e l d j z, plus-mono σ (le_refl v) m)

  serves-within : {q a v : ℕ} {st : List ℕ} → q < B.states → a < B.terminals → v ≤ r → ClaimedDescends σ B claim J (q ∷ st) a v → ClaimedDescends σ B claim K (q ∷ st) a v
  serves-within hq ha h (arriving x) = let (m, y) = t.within hq ha h x in arriving y
  serves-within hq ha h (popping {v} {x} {q₂} {g} k c e l d j b) =
      popping k c e l d j (serves-within (i.gotos q₂ _ g j).2 (claimed-next c) (plus-right-within σ v x r near h) b)

  pub serves-iff : {q a : ℕ} {st : List ℕ} → q < B.states → a < B.terminals
      → ((v : ℕ) × (v ≤ r) × ClaimedDescends σ B claim J (q ∷ st) a v) ↔ ((v : ℕ) × (v ≤ r) × ClaimedDescends σ B claim K (q ∷ st) a v)
  serves-iff hq ha = (λ (v, h, x). (v, h, serves-within hq ha h x), λ (v, h, x). let (y, z, m) = serves-lower hq ha h x in (y, le_trans m h, z))

-- claimed walks to a pair and on
module _ {σ : Scale} {B : Tables} {claim : Claims} {q a : ℕ} where
  pub onward : {K : ℕ → ℕ → ℕ → Type 0} {v u n s z : ℕ} (y : ℕ) → Claimed σ B claim q a v z n s → K s z y → u ≡ plus σ v y → OnwardTo σ B claim K q a u
  onward {v} {n} {s} {z} y c k e = record { count = n; state = s; next = z; before = v; after = y; walk = c; done = k; sum = e }

  -- to a set of goal pairs
  pub onward-goal : {Goal : ℕ → ℕ → Type 0} {v n s z : ℕ} → Goal s z → Claimed σ B claim q a v z n s → Onward σ B claim Goal q a v
  onward-goal {v} j c = onward 0 c (j, refl) (sym (plus-zero σ v (claimed-bounded c)))

  pub onward-claimed : {Goal : ℕ → ℕ → Type 0} {v : ℕ} → Onward σ B claim Goal q a v → (n : ℕ) × ((s z : ℕ) × Goal s z × Claimed σ B claim q a v z n s)
  onward-claimed {v} o =
      let same : v ≡ o.before = rw (o.done.1, plus-zero σ o.before (claimed-bounded o.walk)) at o.sum in
      (o.count, (o.state, o.next, o.done.0, rw same o.walk))

  -- with the least costs of what is to be done as weights, the least is that of doing it
  pub weights-least : {K : ℕ → ℕ → ℕ → Type 0} {weight : ℕ → ℕ → ℕ} {d : ℕ} → InRange B → q < B.states
      → ((s z : ℕ) → s < B.states → z < B.terminals → Least σ (K s z) (weight s z)) → Least σ (OnwardTo σ B claim (Weighs weight) q a) d
      → Least σ (OnwardTo σ B claim K q a) d
  weights-least {K} {weight} {d} i hq f l = record {
    below = λ v o. rw o.sum (le_trans (l.below _ (onward (weight o.state o.next) o.walk refl refl)) (plus-mono σ (le_refl o.before) ((at o.walk).below o.after o.done)));
    attained = ⊎_elim inl (λ o. up o (at o.walk).attained) l.attained;
  }
    where
      at : {v n s z : ℕ} → Claimed σ B claim q a v z n s → Least σ (K s z) (weight s z)
      at {s} {z} c = f s z (claimed-state i hq c) (claimed-next c)

      up : (o : OnwardTo σ B claim (Weighs weight) q a d) → (weight o.state o.next ≡ unreached σ) ⊎ K o.state o.next (weight o.state o.next)
          → (d ≡ unreached σ) ⊎ OnwardTo σ B claim K q a d
      up o (inl e) = inl (o.sum ∙ plus-far-right σ _ _ (omega (arith, o.done)))
      up o (inr k) = inr (onward o.after o.walk (rw o.done k) o.sum)

-- the least costs of ends serve up to every bound below unreached
pub ends-serve : {σ : Scale} {B : Tables} {E : List ℕ → ℕ → ℕ → ℕ} {K : ℕ → List ℕ → ℕ → ℕ → ℕ → Type 0} {r : ℕ} → r < unreached σ
    → ((q : ℕ) (st : List ℕ) (a : ℕ) → q < B.states → a < B.terminals → Least σ (λ v. (n : ℕ) × K q st a v n) (E st q a)) → Serves B r (λ q st a v n. v ≡ E st q a) K
ends-serve {E} near least = record {
  lower = λ {q} {a} {v} {n} {st} hq ha h k. (E st q a, 0, refl, (least q st a hq ha).below v (n, k));
  within = λ {q} {a} {v} {n} {st} hq ha h e. ⊎_elim (λ u. absurd (omega (arith, u))) (λ k. rw e k) (least q st a hq ha).attained;
}

-- so those of a table to go to the goals
pub least-serves : {σ : Scale} {B : Tables} {claim : Claims} {G : ℕ → ℕ → ℕ} {Goal : ℕ → ℕ → Type 0} {r : ℕ} → r < unreached σ
    → ((q a : ℕ) → q < B.states → a < B.terminals → Least σ (Onward σ B claim Goal q a) (G q a))
    → Serves B r (λ q st a v n. v ≡ G q a) (λ q st a v n. (s z : ℕ) × Goal s z × Claimed σ B claim q a v z n s)
least-serves {σ} {B} {claim} {G} {Goal} near least = ends-serve {E = λ st. G} near goals
  where
    goals : (q : ℕ) (st : List ℕ) (a : ℕ) → q < B.states → a < B.terminals → Least σ (λ v. (n : ℕ) × ((s z : ℕ) × Goal s z × Claimed σ B claim q a v z n s)) (G q a)
    goals q st a hq ha = record {
      below = λ v (n, (s, z, j, c)). (least q a hq ha).below v (onward-goal j c);
      attained = ⊎_map (λ u. u) (λ o. onward-claimed o) (least q a hq ha).attained;
    }

module _ {σ : Scale} {B : Tables} {claim : Claims} (i : InRange B) (c : Closed σ B claim) where
  -- no crossing costs less than its claim
  pub claim-least : {q X a z g : ℕ} {w : List ℕ} → z < B.terminals → B.goto q X ≡ suc g → Crosses B q X a z w → claim q X a z ≤ cap σ (cost σ w)
  claim-least {g} h t x =
      let (v, d, l) = closed-below i c h x.walk in
      le_trans (rw x.left at (c.bound {g = g} d x.action (rw x.left t))) l

  module _ (k : Witnessed σ B claim) where
    -- (iii) closed and witnessed claims are exact
    pub claim-exact : {q X a z g : ℕ} → a < B.terminals → z < B.terminals → B.goto q X ≡ suc g → Exact σ (Crosses B q X a z) (claim q X a z)
    claim-exact {q} {X} {a} {z} ha hz g = record { least = λ w x. claim-least hz g x; attained = k.witness q X a z ha hz g }

    -- (iv) the claimed walks of n transitions stand for the walks, and so the least over them is exact
    pub walk-matches : {q a z n q' : ℕ} → z < B.terminals → Matches σ (λ v. Claimed σ B claim q a v z n q') (λ w. Walk B q a w z n q')
    walk-matches h = record { below = λ w r. closed-below i c h r; above = λ v r. witnessed-above k r }

    pub layer-exact : {q a z n q' d : ℕ} → z < B.terminals → Least σ (λ v. Claimed σ B claim q a v z n q') d → Exact σ (λ w. Walk B q a w z n q') d
    layer-exact h l = matches-exact (walk-matches h) l

    -- (v) likewise those from the start
    pub start-matches : {s z : ℕ} → z < B.terminals → Matches σ (Arrival σ B claim s z) (λ w. Reaches B w z s)
    start-matches {s} {z} h = record {
      below = λ w r. let (n, t) = reaches-walk r in let (v, x, j) = closed-below i c h t in (v, (first w z, n, x), j);
      above = λ v (a, n, r). attained-map σ (λ w t. walk-reaches i t) (witnessed-above k r);
    }

    pub start-exact : {s z d : ℕ} → z < B.terminals → Least σ (Arrival σ B claim s z) d → Exact σ (λ w. Reaches B w z s) d
    start-exact h l = matches-exact (start-matches h) l

    -- (vi) those to some pair and on, where what is claimed from there stands for words
    pub walks-to-matches : {K : ℕ → ℕ → ℕ → Type 0} {P : ℕ → ℕ → List ℕ → Type 0} {q a : ℕ} → ((v n s z : ℕ) → Claimed σ B claim q a v z n s → Matches σ (K s z) (P s z))
        → Matches σ (OnwardTo σ B claim K q a) (WalksTo B P q a)
    walks-to-matches at = record {
      below = λ w x.
          let (u, r, j) = closed-below i c x.terminal x.walk in
          let (y, m, l) = (at u x.count x.state x.next r).below x.rest x.done in
          (plus σ u y, onward y r m refl, rw x.whole (plus-cost-le σ x.front x.rest j l));
      above = λ v o. rw o.sum (attained-plus σ
          (λ u y r p. record { count = o.count; state = o.state; next = o.next; front = u; rest = y; walk = r; terminal = claimed-next o.walk; done = p; whole = refl })
          (witnessed-above k o.walk)
          ((at o.before o.count o.state o.next o.walk).above o.after o.done));
    }

    pub onward-matches : {K : ℕ → ℕ → ℕ → Type 0} {P : ℕ → ℕ → List ℕ → Type 0} {q a : ℕ} → q < B.states
        → ((s z : ℕ) → s < B.states → z < B.terminals → Matches σ (K s z) (P s z)) → Matches σ (OnwardTo σ B claim K q a) (WalksTo B P q a)
    onward-matches hq f = walks-to-matches (λ v n s z r. f s z (claimed-state i hq r) (claimed-next r))

    -- (vii) what is claimed from a stack, where the ends match
    pub descends-matches : {K : ℕ → List ℕ → ℕ → ℕ → ℕ → Type 0} {E : ℕ → List ℕ → ℕ → List ℕ → ℕ → Type 0} {a : ℕ} {st : List ℕ}
        → ((q : ℕ) (st : List ℕ) (a : ℕ) (w : List ℕ) (n : ℕ) → E q st a w n → a < B.terminals)
        → ((q : ℕ) (st : List ℕ) (a n : ℕ) → Matches σ (λ v. K q st a v n) (λ w. E q st a w n)) → Matches σ (ClaimedDescends σ B claim K st a) (Descends B E st a)
    descends-matches t m = record {
      below = λ w r. closed-descends-below i c t (λ q st a w n x. (m q st a n).below w x) r;
      above = λ v r. witnessed-descends-above k (λ q st a v n x. (m q st a n).above v x) r;
    }

    pub gets-matches : {s z a : ℕ} {st : List ℕ} → z < B.terminals → Matches σ (ClaimedGets σ B claim s z st a) (Gets B s z st a)
    gets-matches h = descends-matches (λ q st a w n r. walk-terminal i h r) (λ q st a n. walk-matches h)

    pub gets-exact : {s z a d : ℕ} {st : List ℕ} → z < B.terminals → Least σ (ClaimedGets σ B claim s z st a) d → Exact σ (Gets B s z st a) d
    gets-exact h l = matches-exact (gets-matches h) l

    pub gets-to-matches : {Goal : ℕ → ℕ → Type 0} {a : ℕ} {st : List ℕ} → ((s z : ℕ) → Goal s z → z < B.terminals) → Matches σ (ClaimedGetsTo σ B claim Goal st a) (GetsTo B Goal st a)
    gets-to-matches t = descends-matches
        (λ q st a w n (s, z, h, r). walk-terminal i (t s z h) r)
        (λ q st a n. record {
          below = λ w (s, z, h, r). let (v, x, j) = closed-below i c (t s z h) r in (v, (s, z, h, x), j);
          above = λ v (s, z, h, r). attained-map σ (λ w x. (s, z, h, x)) (witnessed-above k r);
        })
