-- Before a symbol is taken in, the machine stands where it shifts it. Assumes nothing.
use Rattle.std.specs.Prelude.{List, [], ◌∷◌, ◌≡◌, ℕ, ◌≤◌, ◌<◌, length}
use Rattle.std.proofs.Common.{arith, length-append}
use Rattle.book.specs.Tables.{Tables}
use Rattle.book.specs.TablesLaws.{InRange}
use Rattle.book.specs.declared.Action.TheVariants.{Shift}
use Rattle.machine.specs.Machine.{shift, reduce, Steps, done, then}
use Rattle.machine.specs.MachineLaws.{clash, next-shift, next-empty}
use Rattle.walk.specs.Walk.{Gets, first}
use Rattle.walk.proofs.WalkLaws.{gets-runs, runs-gets}
use Rattle.walk.specs.ShiftLaws.{Ready}

-- such a symbol is from 1 to T - 1
pub ready-terminal : {B : Tables} {st : List ℕ} {x : ℕ} → InRange B → Ready B st x → (1 ≤ x) × (x < B.terminals)
ready-terminal {x} i k = let (q, one, t, s) = i.shifts k.state x k.target k.action in (one, t)

-- the same as a run, where u comes after x
record Met (B : Tables) (st : List ℕ) (x : ℕ) (u : List ℕ) : Type 0 where
  state : ℕ
  under : List ℕ
  target : ℕ
  action : B.act state x ≡ Shift target
  run : Steps B st (x ∷ u) (state ∷ under) (x ∷ u)

met : {B : Tables} {st st' u u' : List ℕ} {x : ℕ} → Steps B st (x ∷ u) st' u' → length u' ≤ length u → Met B st x u
met done l = absurd (omega arith)
met {B} {x} (then (shift {st = []} e) r) l = absurd (clash (cc (next-empty B x)))
met {B} {x} (then (shift {st = q ∷ st} {s} e) r) l = record { state = q; under = st; target = s; action = next-shift B q x st e; run = done }
met (then (reduce e) r) l = let m = met r l in record { state = m.state; under = m.under; target = m.target; action = m.action; run = then (reduce e) m.run }

-- where a word that begins with x brings some state on top
pub gets-ready : {B : Tables} {s z x : ℕ} {st v : List ℕ} → Gets B s z st x (x ∷ v) → Ready B st x
unfolding first
gets-ready {z} {x} {v} g =
    let (below, r) = gets-runs g [] in
    let m = met r (omega (arith, length-append v (z ∷ []))) in
    record { state = m.state; target = m.target; action = m.action; gets = runs-gets [] m.run }
