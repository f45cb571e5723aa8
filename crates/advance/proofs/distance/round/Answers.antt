-- `advance::distance::round` meets its contract. Assumes nothing.
use native.Mathlib.Nat.{le_antisymm}
use native.Mathlib.Omega.{arith}
use Rattle.advance.specs.RoundLaws.{round-more}
use Rattle.advance.proofs.distance.round.Goals as goal

pub loop-q-init : goal.loop-q-init
loop-q-init c = (omega arith, c.requires.round)

pub overflow_add-n : goal.overflow_add-n
overflow_add-n c = omega (arith, c.turn-n.ensures.upper_bound, c.requires.usable.fitted.holds.small.states)

pub loop-q-preserved : goal.loop-q-preserved
loop-q-preserved c =
    (omega (arith, c.turn-n.ensures.upper_bound), round-more c.requires.usable.fitted.holds c.loop-q-test.true c.loop-q.invariant.1 c.turn-n.ensures.turn)

pub returns : goal.returns
returns c = rw (le_antisymm c.loop-q.auto.q-end c.loop-q-test.false) at c.loop-q.invariant.1
