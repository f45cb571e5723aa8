-- `distances::to_goals::mark` meets its contract. Assumes nothing.
use native.Mathlib.Omega.{arith}
use native.Mathlib.Nat.{le_antisymm}
use Rattle.distances.specs.GoalLaws.{below_more, below_all}
use Rattle.distances.proofs.to_goals.mark.Goals as goal

pub loop-q-preserved : goal.loop-q-preserved
loop-q-preserved c = below_more _ _ (omega (arith, c.loop-q.invariant.count)) c.has_distance.ensures c.loop-q.invariant

pub returns : goal.returns
returns c = below_all (rw (le_antisymm c.loop-q.auto.q-end c.loop-q-test.false) at c.loop-q.invariant)
