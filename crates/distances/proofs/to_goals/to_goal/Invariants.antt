use mathlib.Core.Path.{◌≡◌}
use Prim.Native.Nat.{◌+◌, min}
use Rattle.book.specs.Tables.{tables_of}
use Rattle.walk.specs.Scale.{plain}
use Rattle.layers.specs.Crossing.{claim_in}
use Rattle.layers.specs.Total.{total}
use Rattle.crossings.specs.Falling.{Each}
use Rattle.distances.specs.Distances.{distance_in}
use Rattle.distances.specs.Pass.{Drawn, Marked, LeastApproach}
use Rattle.distances.proofs.to_goals.to_goal.Given as goal

abbrev pub invariant-loop-n : goal.invariant-loop-n
invariant-loop-n live = Drawn plain (tables_of live.cells) (claim_in live.d live.table) live.initial.dist live.dist × Marked plain live.d.t live.flags live.dist × (live.n ≡ 0 → Each (λ q. Each (λ a l. LeastApproach plain (tables_of live.cells) (claim_in live.d live.table) q a (distance_in plain l)) live.d.t) live.d.s live.dist)

abbrev pub decreases-loop-n : goal.decreases-loop-n
decreases-loop-n l = total l.dist + min l.n 1
