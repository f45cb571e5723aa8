use Rattle.distances.specs.Distances.{distance_in}
use Rattle.distances.specs.Pass.{LessenedUpto, PastGoto}
use Rattle.walk.specs.Scale.{plain}
use Rattle.distances.proofs.transition.past_goto.Given as goal

abbrev pub invariant-loop-b : goal.invariant-loop-b
invariant-loop-b l = LessenedUpto plain (PastGoto plain (distance_in plain l.dist) l.table l.start l.g) l.b l.v l.r
