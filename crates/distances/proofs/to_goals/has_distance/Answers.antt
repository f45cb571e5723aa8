-- `distances::to_goals::has_distance` meets its contract. Assumes nothing.
use native.Mathlib.Omega.{arith}
use borrow.Author.Count.{below_more}
use native.Mathlib.Nat.{le_antisymm}
use Rattle.walk.specs.Scale.{plain}
use Rattle.distances.specs.DistancesLaws.{distance_read}
use Rattle.distances.proofs.to_goals.has_distance.Goals as goal

pub loop-z-preserved : goal.loop-z-preserved
loop-z-preserved c =
    below_more _ _ c.loop-z.invariant (le_antisymm (c.requires.bounded.most _ _ (omega arith)) (rw (distance_read plain c.args.dist.now c.args.q c.loop-z.z c.requires.q_bound.0) c.if-dist-row-lt-UNREACHED.false))
