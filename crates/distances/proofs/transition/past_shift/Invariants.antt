use Rattle.distances.specs.Distances.{distance_in}
use Rattle.distances.specs.Pass.{LessenedUpto, PastShift}
use Rattle.walk.specs.Scale.{plain}
use Rattle.distances.proofs.transition.past_shift.Given as goal

abbrev pub invariant-loop-b : goal.invariant-loop-b
invariant-loop-b l = LessenedUpto plain (PastShift plain 1 (distance_in plain l.dist) l.g) l.b l.v l.r
