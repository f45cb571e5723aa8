use Rattle.book.specs.Tables.{tables_of}
use Rattle.walk.specs.Scale.{plain}
use Rattle.layers.specs.Crossing.{claim_in}
use Rattle.crossings.specs.Falling.{Pass, Each}
use Rattle.distances.specs.Distances.{distance_in}
use Rattle.distances.specs.Pass.{Drawn, Marked, LeastApproach}
use Rattle.distances.proofs.to_goals.approach_state.Given as goal

abbrev pub invariant-loop-a : goal.invariant-loop-a
invariant-loop-a live = Pass (Drawn plain (tables_of live.cells) (claim_in live.d live.table)) (Each (λ j l. LeastApproach plain (tables_of live.cells) (claim_in live.d live.table) live.q j (distance_in plain l)) live.a) live.n live.initial.dist live.dist × Marked plain live.d.t live.flags live.dist
