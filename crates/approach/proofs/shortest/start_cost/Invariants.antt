use Rattle.approach.specs.Shortest.{least_over, Lowest}
use Rattle.approach.proofs.shortest.start_cost.Given as goal

abbrev pub invariant-loop-a : goal.invariant-loop-a
invariant-loop-a l = Lowest (least_over l.togo l.due l.len) l.a l.r
