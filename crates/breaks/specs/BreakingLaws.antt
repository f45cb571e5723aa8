-- Laws of reductions that break: which words bring the machine to one, from the start and from any stack. Assumes nothing.
use Rattle.std.specs.Prelude.{true, ◌⊎◌, ◌↔◌, ◌≢◌, ◌≡◌, refl, ℕ, zero, suc, ◌+◌, ◌-◌, ◌<◌, length}
use mathlib.Core.List.{List, [], ◌∷◌, ◌++◌, nil≢cons}
use Rattle.std.proofs.Common.{inl, inr, ⊎_elim, sym, ◌∙◌, arith, drop-drop, eqb-true, eq-eqb}
use Rattle.std.proofs.Math.ListN.{drop}
use Rattle.std.proofs.Math.Seq.{drop-nil, drop-length}
use Rattle.book.specs.Tables.{Tables}
use Rattle.book.specs.TablesLaws.{InRange}
use Rattle.book.specs.declared.Action.{Action}
use Rattle.book.specs.declared.Action.TheVariants.{Error, Accept, Shift, Reduce}
use Rattle.machine.specs.Machine.{breaks, goes, lands, does, next, shift, reduce, Steps, done, then, Terminals}
use Rattle.machine.specs.MachineLaws.{clash, next-reduce, taken-terminals}
use Rattle.machine.specs.Run.{runs}
use Rattle.machine.specs.RunLaws.{EndsAt, run_ends}
use Rattle.machine.specs.declared.Ending.TheVariants.{Broken}
use Rattle.machine.specs.declared.Stop.{Stop}
use Rattle.walk.specs.Walk.{Walk, first, Chain, arrives, pops, Lands}
use Rattle.walk.proofs.WalkLaws.{walk-terminal, walk-chain, chain-walk, chain-append, chain-under, pop, pop-short, descends-map, descends-some, lands-runs, runs-lands}
use Rattle.walk.specs.Breaks.{Breaks}
use Rattle.walk.specs.Goal.{BreaksAt, breaking}
use Rattle.walk.specs.Ends.{bare}
use Rattle.walk.specs.Choice.{Brings, LandsIn}
use Rattle.breaks.specs.Breaking.{Far, Short, BreaksOn, far, near, GetsBreak}

-- ---- a broken step
module _ (B : Tables) where
  goes-breaks : (g : ℕ) (stack : List ℕ) → goes g stack ≡ breaks → g ≡ 0
  goes-breaks zero stack e = refl
  goes-breaks (suc g) stack e = absurd (clash cc)

  lands-bare : (X : ℕ) (left : List ℕ) → lands B X left ≡ breaks → bare B X left ≡ true
  lands-bare X [] e = refl
  lands-bare X (q ∷ left) e = eq-eqb (B.goto q X) 0 (goes-breaks (B.goto q X) (q ∷ left) e)

  bare-lands : (X : ℕ) (left : List ℕ) → bare B X left ≡ true → lands B X left ≡ breaks
  bare-lands X [] e = refl
  bare-lands X (q ∷ left) e = rw (eqb-true (B.goto q X) 0 e)

  module _ (q a : ℕ) (st : List ℕ) where
    does-breaks : (x : Action) → does B (q ∷ st) x ≡ breaks → (p : ℕ) × (x ≡ Reduce p)
    does-breaks Error e = absurd (clash cc)
    does-breaks Accept e = absurd (clash cc)
    does-breaks (Shift s) e = absurd (clash cc)
    does-breaks (Reduce p) e = (p, refl)

    -- only a reduction breaks, ..
    next-breaks : next B (q ∷ st) a ≡ breaks → (p : ℕ) × (B.act q a ≡ Reduce p)
    unfolding next
    next-breaks e = does-breaks (B.act q a) e

    -- .. exactly if there is nothing to go on from
    next-bare : {p : ℕ} → B.act q a ≡ Reduce p → (next B (q ∷ st) a ≡ breaks) ↔ (bare B (B.lhs p) (drop (B.len p) (q ∷ st)) ≡ true)
    unfolding next
    next-bare {p} i =
        let left = drop (B.len p) (q ∷ st) in
        (λ e. lands-bare (B.lhs p) left (rw i at e), λ e. rw i (bare-lands (B.lhs p) left e))

pub breaks-reduce : {B : Tables} {w : List ℕ} {z s : ℕ} → Breaks B w z s → (p : ℕ) × (B.act s z ≡ Reduce p)
breaks-reduce {B} {z} {s} b = next-breaks B s z b.below b.broken

-- nothing lies below a stack of one state
start-break : {B : Tables} {p s z q a : ℕ} {w : List ℕ} → GetsBreak B p s z (q ∷ []) a w → Far B p s z q a w ⊎ ((n : ℕ) × (n < B.len p) × Walk B q a w z n s)
start-break (arrives (far f)) = inl f
start-break (arrives {n} (near k r l b)) = inr (n, omega arith, r)
start-break (pops k r h l d g c) = absurd (nil≢cons (sym (drop-nil k) ∙ d))

module _ {B : Tables} (i : InRange B) where
  -- breaking as a goal on the stack
  pub breaks-brings : {z s : ℕ} (w : List ℕ) → Brings B z (BreaksAt B s z) (0 ∷ []) w ↔ Breaks B w z s
  breaks-brings {z} {s} w = (λ (s', below, k, r). to k r, λ b. (s, b.below, breaking b.broken, b.run))
    where
      to : {s' : ℕ} {below : List ℕ} → BreaksAt B s z s' below → Steps B (0 ∷ []) (w ++ (z ∷ [])) (s' ∷ below) (z ∷ []) → Breaks B w z s
      to {below} (breaking e) r = record { terminals = taken-terminals i w r; below = below; run = r; broken = e }

  -- ---- from any stack
  module _ {p s z : ℕ} (e : B.act s z ≡ Reduce p) where
    -- what the reduction leaves of a chain
    chain-breaks : {q a n : ℕ} {st w below : List ℕ} → Chain B q st a w z n s below → (left : List ℕ) → drop (B.len p) (s ∷ below) ≡ left
        → bare B (B.lhs p) left ≡ true → BreaksOn B p s z q st a w n
    chain-breaks c [] d b = let x = pop-short (B.len p) c d in near x.k (chain-walk c) x.count (rw x.under refl)
    chain-breaks c (q' ∷ st') d b = ⊎_elim
        (λ x. far (record {
          count = x.j;
          state = q';
          next = x.b;
          front = x.w₁;
          rest = x.w₂;
          walk = chain-walk x.rest;
          terminal = walk-terminal i (i.reduces s z p e).1 x.walk;
          done = (eqb-true (B.goto q' (B.lhs p)) 0 b, x.walk);
          whole = x.whole;
        }))
        (λ x. near x.k (chain-walk c) x.count (rw x.under b))
        (pop (B.len p) c d)

    breaks-chain : (q : ℕ) (st : List ℕ) (a : ℕ) (w : List ℕ) (n : ℕ) → BreaksOn B p s z q st a w n
        → (x : (below : List ℕ) × (next B (s ∷ below) z ≡ breaks)) × (m : ℕ) × Chain B q st a w z m s x.0
    breaks-chain q st a w n (far f) =
        let (st₁, c) = walk-chain f.walk st in
        let (st₂, d) = walk-chain f.done.1 st₁ in
        let g = eq-eqb (B.goto f.state (B.lhs p)) 0 f.done.0 in
        ((st₂, (next-bare B s z st₂ e).1 (rw (chain-under d) g)), f.count + B.len p, rw f.whole (chain-append c d))
    breaks-chain q st a w n (near k r l b) =
        let (below, c) = walk-chain r st in
        ((below, (next-bare B s z below e).1 (rw (l, ← drop-drop, chain-under c) b)), n, c)

    -- the machine comes to break at (s, z) exactly as `GetsBreak` says ..
    pub break-lands : {st : List ℕ} (a : ℕ) (w : List ℕ) → LandsIn B z (BreaksAt B s z) st a w ↔ GetsBreak B p s z st a w
    break-lands {st} a w = (λ (s', below, k, l). to k l, λ g. let ((below, b), l) = descends-some breaks-chain g in (s, below, breaking b, l))
      where
        to : {s' : ℕ} {below : List ℕ} → BreaksAt B s z s' below → Lands B s' z below st a w → GetsBreak B p s z st a w
        to {below} (breaking b) l = descends-map (λ q st a w n c. chain-breaks c (drop (B.len p) (s ∷ below)) refl ((next-bare B s z below e).0 b)) l

    -- .. run by run
    pub break-stack : {st : List ℕ} (w : List ℕ) → Brings B z (BreaksAt B s z) st w ↔ GetsBreak B p s z st (first w z) w
    break-stack w = (
      λ (s', below, k, r). (break-lands (first w z) w).0 (s', below, k, runs-lands w r),
      λ g. let (s', below, k, l) = (break-lands (first w z) w).1 g in (s', below, k, lands-runs l []),
    )

    -- ---- from the start
    start-breaks : {a : ℕ} {w : List ℕ} → GetsBreak B p s z (0 ∷ []) a w → Breaks B w z s
    start-breaks {a} {w} g = let (s', below, k, l) = (break-lands a w).1 g in (breaks-brings w).0 (s', below, k, lands-runs l [])

    pub far-breaks : {a : ℕ} {w : List ℕ} → Far B p s z 0 a w → Breaks B w z s
    far-breaks f = start-breaks (arrives {n = 0} (far f))

    pub short-breaks : {a n : ℕ} {w : List ℕ} → n < B.len p → Walk B 0 a w z n s → Breaks B w z s
    short-breaks {n} h r = let k = B.len p - suc n in start-breaks (arrives {st = []} (near k r (omega arith) (rw (drop-nil k) refl)))

    -- far, or by fewer transitions than p is long
    pub break-start : (w : List ℕ) → Breaks B w z s ↔ (Far B p s z 0 (first w z) w ⊎ Short B p s z w)
    break-start w = (λ b. start-break ((break-stack w).0 ((breaks-brings w).1 b)), λ x. ⊎_elim (λ f. far-breaks f) (λ (n, h, r). short-breaks h r) x)

-- ---- a run that ends as broken with all of w in shows that w breaks there. The stack is never empty
never-empty : {B : Tables} {q : ℕ} {st stack left u u' : List ℕ} → stack ≡ q ∷ st → Steps B stack u left u' → left ≢ []
never-empty i done e = nil≢cons (sym e ∙ i)
never-empty {q = q} i (then (shift {s = s} f) r) e = never-empty {q = s} refl r e
never-empty {B} {q} {st} i (then (reduce {a} f) r) e = never-empty (next-reduce B q a st (rw i at f)).stack r e

pub run-broken : (B : Tables) (w : List ℕ) (z : ℕ) (stop : Stop) → (runs B z w 0 (0 ∷ [])).0 ≡ Broken stop → stop.taken ≡ length w → Terminals B w → Breaks B w z stop.state
run-broken B w z stop e all t = go (runs B z w 0 (0 ∷ [])).1 (rw e at (run_ends B w z))
  where
    go : (st : List ℕ) → EndsAt B w z (Broken stop) st → Breaks B w z stop.state
    go [] x = absurd (never-empty refl x.run refl)
    go (q ∷ st) x =
        let looked : z ∷ [] ≡ stop.symbol ∷ x.rest = rw (all, drop-length) at x.looked in
        let is : stop.symbol ≡ z = cc in
        let top : stop.state ≡ q = x.top in
        rw top (record { terminals = t; below = st; run = rw (all, drop-length) at x.run; broken = rw is at x.move })
