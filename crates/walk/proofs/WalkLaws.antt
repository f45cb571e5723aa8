-- Laws of walks: they are run by the machine, and the machine reaches nothing else, from the start and from any stack. Assumes nothing.
use Rattle.std.specs.Prelude.{◌≡◌, ◌⊎◌, ◌↔◌, ℕ, zero, suc, ◌+◌, ◌<◌, drop}
use Rattle.std.proofs.Math.Path.{refl}
use Rattle.std.proofs.Common.{ap, sym, ◌∙◌, inl, inr, ⊎_elim, add-zero, add-suc, add-one, arith, drop-drop}
use mathlib.Core.List.{List, [], ◌∷◌, ◌++◌, append_assoc, append-nil, append_cancel_right, nil≢cons}
use Rattle.std.proofs.Math.Logic.{⊎_map}
use Rattle.std.proofs.Math.Seq.{drop-nil}
use Rattle.book.specs.Tables.{Tables}
use Rattle.book.specs.TablesLaws.{InRange}
use Rattle.machine.specs.Machine.{shift, reduce, Steps, done, then, Reaches}
use Rattle.machine.specs.MachineLaws.{clash, step-shift, step-reduce, next-shift, next-reduce, next-empty, ◌⊕◌, taken-terminals}
use Rattle.walk.specs.Walk.{Walk, here, shifted, crossed, first, Chain, base, push, Descends, arrives, pops, Gets, Lands}
use Rattle.walk.specs.WalkLaws.{Opens, shifts, empties}

-- what a walk does to a stack with q on top: it pushes n states
pub record Pushed (B : Tables) (q : ℕ) (st w : List ℕ) (z n q' : ℕ) (u : List ℕ) : Type 0 where
  pub above : List ℕ
  pub popped : drop n (q' ∷ above) ≡ q ∷ st
  pub run : Steps B (q ∷ st) (w ++ (z ∷ u)) (q' ∷ above) (z ∷ u)

-- m states of a chain are popped, and q' ∷ st' is left: they are a walk, and the rest is a chain ..
pub record Inside (B : Tables) (q : ℕ) (st : List ℕ) (a : ℕ) (w : List ℕ) (z n top m q' : ℕ) (st' : List ℕ) : Type 0 where
  pub w₁ : List ℕ
  pub w₂ : List ℕ
  pub b : ℕ
  pub j : ℕ
  pub rest : Chain B q st a w₁ b j q' st'
  pub walk : Walk B q' b w₂ z m top
  pub whole : w ≡ w₁ ++ w₂
  pub count : n ≡ j + m

-- .. or the whole chain of n is popped, with its first state and k states below it
pub record Below (st : List ℕ) (n m : ℕ) (left : List ℕ) : Type 0 where
  pub k : ℕ
  pub count : m ≡ n + suc k
  pub under : drop k st ≡ left

first_of : {a : ℕ} {u' : List ℕ} (w : List ℕ) (z : ℕ) (u : List ℕ) → w ++ (z ∷ u) ≡ a ∷ u' → a ≡ first w z
unfolding first
first_of [] z u e = cc
first_of (t ∷ w) z u e = cc

module _ {B : Tables} where
  -- 1. the first terminal of w z is a
  pub walk-starts : {q a z n q' : ℕ} {w : List ℕ} → Walk B q a w z n q' → (u : List ℕ) → (u' : List ℕ) × (w ++ (z ∷ u) ≡ a ∷ u')
  walk-starts here u = (u, refl)
  walk-starts (shifted z r e) u = let (u', i) = walk-starts r (z ∷ u) in (u', rw append_assoc i)
  walk-starts (crossed r r' e l g) u = let (u₂, j) = walk-starts r' u in let (u₁, i) = walk-starts r u₂ in (u₁, rw (append_assoc, j) i)

  pub walk_first : {q a z n q' : ℕ} {w : List ℕ} → Walk B q a w z n q' → a ≡ first w z
  walk_first {z} {w} r = let (u', e) = walk-starts r [] in first_of w z [] e

  -- 2. a walk is run by the machine, on every stack below and with every rest of input after z
  pub walk-runs : {q a z n q' : ℕ} {w : List ℕ} → Walk B q a w z n q' → (st u : List ℕ) → Pushed B q st w z n q' u
  walk-runs here st u = record { above = st; popped = refl; run = done }
  walk-runs (shifted {q₁} z r e) st u =
      let i = walk-runs r st (z ∷ u) in
      record { above = q₁ ∷ i.above; popped = i.popped; run = rw append_assoc (i.run ⊕ then (step-shift e) done) }
  walk-runs (crossed {q₁} r r' e l g) st u =
      let (u', f) = walk-starts r' u in
      let i = walk-runs r st u' in
      let j = walk-runs r' i.above u in
      record { above = q₁ ∷ i.above; popped = i.popped; run = rw (append_assoc, f) (i.run ⊕ rw f at j.run ⊕ then (step-reduce e (rw l j.popped) g) done) }

  -- a walk of one transition pushes its target
  pub walk-pushes : {q a z q' : ℕ} {w : List ℕ} → Walk B q a w z 1 q' → (st u : List ℕ) → Steps B (q ∷ st) (w ++ (z ∷ u)) (q' ∷ q ∷ st) (z ∷ u)
  walk-pushes r st u = let i = walk-runs r st u in rw i.popped at i.run

  -- two walks, one after the other
  pub walk-append : {q a b z n q₁ m q₂ : ℕ} {w v : List ℕ} → Walk B q a w b n q₁ → Walk B q₁ b v z m q₂ → Walk B q a (w ++ v) z (n + m) q₂
  walk-append r here = rw (append-nil, add-zero) r
  walk-append r (shifted z r' e) = rw (← append_assoc, add-suc) (shifted z (walk-append r r') e)
  walk-append r (crossed r' r'' e l g) = rw (← append_assoc, add-suc) (crossed (walk-append r r') r'' e l g)

  -- with tables in range, the first terminal is one where the next is
  pub walk-terminal : {q a z n q' : ℕ} {w : List ℕ} → InRange B → z < B.terminals → Walk B q a w z n q' → a < B.terminals
  walk-terminal i h here = h
  walk-terminal i h (shifted {t} {q₁} {q₂} z r e) = walk-terminal i (i.shifts q₁ t q₂ e).2 r
  walk-terminal i h (crossed r r' e l g) = walk-terminal i (walk-terminal i h r') r

  -- no walk of one transition or more begins where the action neither shifts nor reduces an empty production
  pub walk_begins : {q a z n q' : ℕ} {w : List ℕ} → Walk B q a w z n q' → ((n ≡ 0) × (q ≡ q') × (a ≡ z)) ⊎ Opens B q a
  walk_begins here = inl (refl, refl, refl)
  walk_begins (shifted z r e) = inr (⊎_elim (λ (i, j, k). rw (j, k) (shifts e)) (λ o. o) (walk_begins r))
  walk_begins (crossed r r' e l g) = inr (⊎_elim
      (λ (i, j, k). rw (j, k) (⊎_elim (λ (i', j', k'). rw (j', k') (empties e (l ∙ i'))) (λ o. o) (walk_begins r')))
      (λ o. o)
      (walk_begins r))

  -- a walk leaves a chain on every stack, and a chain is a walk
  pub walk-chain : {q a z n q' : ℕ} {w : List ℕ} → Walk B q a w z n q' → (st : List ℕ) → (st' : List ℕ) × Chain B q st a w z n q' st'
  walk-chain here st = (st, base)
  walk-chain (shifted {q₁} z r e) st = let (st₁, c) = walk-chain r st in (q₁ ∷ st₁, push c (shifted z here e))
  walk-chain (crossed {q₁} r r' e l g) st = let (st₁, c) = walk-chain r st in (q₁ ∷ st₁, push c (crossed here r' e l g))

  pub chain-walk : {q a : ℕ} {st : List ℕ} {z n q' : ℕ} {w st' : List ℕ} → Chain B q st a w z n q' st' → Walk B q a w z n q'
  chain-walk base = here
  chain-walk (push c r) = rw (← add-one) (walk-append (chain-walk c) r)

  pub chain-append : {q a b n q₁ : ℕ} {w st st₁ : List ℕ} {z m q₂ : ℕ} {v st₂ : List ℕ} → Chain B q st a w b n q₁ st₁ → Chain B q₁ st₁ b v z m q₂ st₂ → Chain B q st a (w ++ v) z (n + m) q₂ st₂
  chain-append c base = rw (append-nil, add-zero) c
  chain-append c (push d r) = rw (← append_assoc, add-suc) (push (chain-append c d) r)

  -- it is run so, and n states lie above the first stack
  pub chain_runs : {q a : ℕ} {st : List ℕ} {z n q' : ℕ} {w st' : List ℕ} → Chain B q st a w z n q' st' → (u : List ℕ) → Steps B (q ∷ st) (w ++ (z ∷ u)) (q' ∷ st') (z ∷ u)
  chain_runs base u = done
  chain_runs (push {st₁} c r) u = let (u', e) = walk-starts r u in rw (append_assoc, e) (chain_runs c u' ⊕ rw e at (walk-pushes r st₁ u))

  pub chain-under : {q a : ℕ} {st : List ℕ} {z n q' : ℕ} {w st' : List ℕ} → Chain B q st a w z n q' st' → drop n (q' ∷ st') ≡ q ∷ st
  chain-under base = refl
  chain-under (push c r) = chain-under c

  -- states popped off a chain
  pub pop : {q a z n top q' : ℕ} {w st stk st' : List ℕ} (m : ℕ) → Chain B q st a w z n top stk → drop m (top ∷ stk) ≡ q' ∷ st'
      → Inside B q st a w z n top m q' st' ⊎ Below st n m (q' ∷ st')
  pop {z} {n} {top} {q'} {w} {stk} {st'} zero c e =
      let i : top ≡ q' = cc in
      let j : stk ≡ st' = cc in
      inl (record { w₁ = w; w₂ = []; b = z; j = n; rest = rw (i, j) at c; walk = rw i here; whole = sym (append-nil w); count = omega arith })
  pop (suc k) base e = inr (record { k = k; count = omega arith; under = e })
  pop (suc k) (push {v} c r) e = ⊎_map
      (λ i. record { w₁ = i.w₁; w₂ = i.w₂ ++ v; b = i.b; j = i.j; rest = i.rest; walk = rw (← add-one) (walk-append i.walk r); whole = rw (i.whole, append_assoc); count = omega (arith, i.count) })
      (λ i. record { k = i.k; count = omega (arith, i.count); under = i.under })
      (pop k c e)

  -- .. as many as there are, or more
  pub pop-short : {q a z n top : ℕ} {w st stk : List ℕ} (m : ℕ) → Chain B q st a w z n top stk → drop m (top ∷ stk) ≡ [] → Below st n m []
  pop-short zero c e = absurd (nil≢cons (sym e))
  pop-short (suc k) base e = record { k = k; count = omega arith; under = e }
  pop-short (suc k) (push c r) e = let i = pop-short k c e in record { k = i.k; count = omega (arith, i.count); under = i.under }

  -- ---- descents, whatever the end
  module _ {E F : ℕ → List ℕ → ℕ → List ℕ → ℕ → Type 0} where
    pub descends-map : {st w : List ℕ} {a : ℕ} → ((q : ℕ) (st : List ℕ) (a : ℕ) (w : List ℕ) (n : ℕ) → E q st a w n → F q st a w n) → Descends B E st a w → Descends B F st a w
    descends-map f (arrives {q} {a} {n} {st} {w} x) = arrives (f q st a w n x)
    descends-map f (pops k r e l d g c) = pops k r e l d g (descends-map f c)

  -- an end of one kind or another, however many states it pushes
  pub descends-some : {I : Type 0} {E : ℕ → List ℕ → ℕ → List ℕ → ℕ → Type 0} {F : I → ℕ → List ℕ → ℕ → List ℕ → ℕ → Type 0} {st w : List ℕ} {a : ℕ}
      → ((q : ℕ) (st : List ℕ) (a : ℕ) (w : List ℕ) (n : ℕ) → E q st a w n → (i : I) × (m : ℕ) × F i q st a w m) → Descends B E st a w → (i : I) × Descends B (F i) st a w
  descends-some f (arrives {q} {a} {n} {st} {w} x) = let (i, m, y) = f q st a w n x in (i, arrives y)
  descends-some f (pops k r e l d g c) = let (i, y) = descends-some f c in (i, pops k r e l d g y)

  -- the first terminal is that of the word and what follows, and with tables in range it is one, where that holds of the end
  pub descends-starts : {E : ℕ → List ℕ → ℕ → List ℕ → ℕ → Type 0} {z a : ℕ} {st w : List ℕ}
      → ((q : ℕ) (st : List ℕ) (a : ℕ) (w : List ℕ) (n : ℕ) → E q st a w n → (u : List ℕ) → (u' : List ℕ) × (w ++ (z ∷ u) ≡ a ∷ u'))
      → Descends B E st a w → (u : List ℕ) → (u' : List ℕ) × (w ++ (z ∷ u) ≡ a ∷ u')
  descends-starts f (arrives {q} {a} {n} {st} {w} x) u = f q st a w n x u
  descends-starts f (pops k r e l d g c) u = let (u₂, j) = descends-starts f c u in let (u₁, i) = walk-starts r u₂ in (u₁, rw (append_assoc, j) i)

  pub descends-terminal : {E : ℕ → List ℕ → ℕ → List ℕ → ℕ → Type 0} {a : ℕ} {st w : List ℕ} → InRange B
      → ((q : ℕ) (st : List ℕ) (a : ℕ) (w : List ℕ) (n : ℕ) → E q st a w n → a < B.terminals) → Descends B E st a w → a < B.terminals
  descends-terminal i f (arrives {q} {a} {n} {st} {w} x) = f q st a w n x
  descends-terminal i f (pops k r e l d g c) = walk-terminal i (descends-terminal i f c) r

  -- ---- to a whole stack, and to a state on top
  pub lands-gets : {s z a : ℕ} {below st w : List ℕ} → Lands B s z below st a w → Gets B s z st a w
  lands-gets l = descends-map (λ q st a w n c. chain-walk c) l

  pub gets-lands : {s z a : ℕ} {st w : List ℕ} → Gets B s z st a w → (below : List ℕ) × Lands B s z below st a w
  gets-lands g = descends-some (λ q st a w n r. let (below, c) = walk-chain r st in (below, n, c)) g

  pub gets-starts : {s z a : ℕ} {st w : List ℕ} → Gets B s z st a w → (u : List ℕ) → (u' : List ℕ) × (w ++ (z ∷ u) ≡ a ∷ u')
  gets-starts g u = descends-starts (λ q st a w n r. walk-starts r) g u

  -- 5. from any stack, what is described is run ..
  pub lands-runs : {s z : ℕ} {below : List ℕ} {a : ℕ} {st w : List ℕ} → Lands B s z below st a w → (u : List ℕ) → Steps B st (w ++ (z ∷ u)) (s ∷ below) (z ∷ u)
  lands-runs (arrives c) u = chain_runs c u
  lands-runs (pops {st} k r e l d g c) u =
      let (u', f) = gets-starts (lands-gets c) u in
      let i = walk-runs r st u' in
      rw (append_assoc, f) (i.run ⊕ then (step-reduce e (rw (l, ← drop-drop, i.popped) d) g) (rw f at (lands-runs c u)))

  pub gets-runs : {s z a : ℕ} {st w : List ℕ} → Gets B s z st a w → (u : List ℕ) → (st' : List ℕ) × Steps B st (w ++ (z ∷ u)) (s ∷ st') (z ∷ u)
  gets-runs g u = let (below, l) = gets-lands g in (below, lands-runs l u)

  -- the input is not used up before the end
  unfed : {s s' u : List ℕ} {z : ℕ} → Steps B s [] s' (z ∷ u) → ⊥
  unfed (then a r) = elim a [ ]

  -- .. and what is run is described. The run keeps the stack a chain; a reduction that pops below the chain starts another
  reach : {s z t : ℕ} {stack x below u : List ℕ} {q a n top : ℕ} {w st stk : List ℕ} → Chain B q st a w t n top stk → Steps B stack (t ∷ x) (s ∷ below) (z ∷ u) → stack ≡ top ∷ stk
      → (v : List ℕ) × (t ∷ x ≡ v ++ (z ∷ u)) × Lands B s z below (q ∷ st) a (w ++ v)
  reach {s} {below} {top} {stk} c done i =
      let j : top ≡ s = cc in
      let k : stk ≡ below = cc in
      ([], refl, rw append-nil (arrives (rw (j, k) at c)))
  reach c (then (shift {u = []} f) r) i = absurd (unfed r)
  reach {top} {stk} c (then (shift {u = t' ∷ x'} {a = t} {s = s₁} f) r) i =
      let (v, j, k) = reach (push c (shifted t' here (next-shift B top t stk (rw i at f)))) r (ap (λ (l : List ℕ). s₁ ∷ l) i) in
      (t ∷ v, ap (λ (l : List ℕ). t ∷ l) j, rw append_assoc at k)
  reach {top} {stk} c (then (reduce {a = t} f) r) i =
      let d = next-reduce B top t stk (rw i at f) in
      ⊎_elim
      (λ m. let (v, j, k) = reach {n = suc m.j} {w = m.w₁ ++ m.w₂} (push m.rest (crossed here m.walk d.action refl d.transition)) r d.stack in (v, j, rw m.whole k))
      (λ m. let (v, j, k) = reach base r d.stack in (v, j, pops m.k (chain-walk c) d.action m.count m.under d.transition k))
      (pop (B.len d.production) c d.left)

  -- an empty stack goes nowhere
  bare : {x st u : List ℕ} {s : ℕ} → Steps B [] x (s ∷ st) u → ⊥
  bare (then (shift {a} f) r) = clash (cc (next-empty B a))
  bare (then (reduce {a} f) r) = clash (cc (next-empty B a))

  pub runs-lands : {s z : ℕ} {st below u : List ℕ} (w : List ℕ) → Steps B st (w ++ (z ∷ u)) (s ∷ below) (z ∷ u) → Lands B s z below st (first w z) w
  unfolding first
  runs-lands {st = []} w r = absurd (bare r)
  runs-lands {z} {st = q ∷ st} {u} [] r = let (v, f, c) = reach base r refl in rw (append_cancel_right [] v (z ∷ u) f) c
  runs-lands {z} {st = q ∷ st} {u} (t ∷ w) r = let (v, f, c) = reach base r refl in rw (append_cancel_right (t ∷ w) v (z ∷ u) f) c

  pub runs-gets : {s z : ℕ} {st below u : List ℕ} (w : List ℕ) → Steps B st (w ++ (z ∷ u)) (s ∷ below) (z ∷ u) → Gets B s z st (first w z) w
  runs-gets w r = lands-gets (runs-lands w r)

  pub lands-iff : {s z : ℕ} {below st : List ℕ} (w : List ℕ) → Lands B s z below st (first w z) w ↔ Steps B st (w ++ (z ∷ [])) (s ∷ below) (z ∷ [])
  lands-iff w = (λ l. lands-runs l [], λ r. runs-lands w r)

  pub gets-iff : {s z : ℕ} {st : List ℕ} (w : List ℕ) → Gets B s z st (first w z) w ↔ ((below : List ℕ) × Steps B st (w ++ (z ∷ [])) (s ∷ below) (z ∷ []))
  gets-iff w = (λ g. gets-runs g [], λ r. runs-gets w r.1)

  -- nothing lies below a stack of one state
  gets-walk : {s z q a : ℕ} {w : List ℕ} → Gets B s z (q ∷ []) a w → (n : ℕ) × Walk B q a w z n s
  gets-walk (arrives {n} r) = (n, r)
  gets-walk (pops k r e l d g c) = absurd (nil≢cons (sym (drop-nil k) ∙ d))

  -- 4. from the start, a pair is reached exactly by the walks from state 0
  pub reaches-walk : {w : List ℕ} {z s : ℕ} → Reaches B w z s → (n : ℕ) × Walk B 0 (first w z) w z n s
  reaches-walk {w} r = gets-walk (runs-gets w r.run)

  pub walk-reaches : {a z n s : ℕ} {w : List ℕ} → InRange B → Walk B 0 a w z n s → Reaches B w z s
  walk-reaches {w} i r = let j = walk-runs r [] [] in record { terminals = taken-terminals i w j.run; below = j.above; run = j.run }

  pub reaches-iff : {w : List ℕ} {z s : ℕ} → InRange B → Reaches B w z s ↔ ((n : ℕ) × Walk B 0 (first w z) w z n s)
  reaches-iff i = (λ r. reaches-walk r, λ r. walk-reaches i r.1)
