use Prim.Native.Nat.{◌-◌}
use Rattle.book.specs.Tables.{tables_of}
use Rattle.walk.specs.Scale.{plain}
use Rattle.layers.specs.Crossing.{claim_in}
use Rattle.crossings.specs.Falling.{Pass, Each}
use Rattle.distances.specs.Distances.{distance_in}
use Rattle.distances.specs.Pass.{Drawn, Marked, LeastApproach}
use Rattle.distances.proofs.to_goals.pass.Given as goal

abbrev pub invariant-loop-q : goal.invariant-loop-q
invariant-loop-q live = Pass (Drawn plain (tables_of live.cells) (claim_in live.d live.table)) (Each (λ j. Each (λ a l. LeastApproach plain (tables_of live.cells) (claim_in live.d live.table) (live.d.s - 1 - j) a (distance_in plain l)) live.d.t) (live.d.s - live.q)) live.n live.initial.dist live.dist × Marked plain live.d.t live.flags live.dist
