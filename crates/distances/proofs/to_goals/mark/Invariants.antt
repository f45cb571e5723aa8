use Rattle.walk.specs.Scale.{plain}
use Rattle.distances.specs.GoalLaws.{MarkedBelow}
use Rattle.distances.proofs.to_goals.mark.Given as goal

abbrev pub invariant-loop-q : goal.invariant-loop-q
invariant-loop-q l = MarkedBelow plain l.t l.q l.flags l.dist
