use Prim.Native.Nat.{◌-◌}
use Rattle.book.specs.Tables.{tables_of}
use Rattle.layers.specs.Crossing.{claim_in}
use Rattle.layers.specs.Layer.{Scratch}
use Rattle.roads.specs.Lowest.{Lowered, Among}
use Rattle.roads.specs.Roads.{ByRoads}
use Rattle.roads.proofs.road.lowest_of_state.Given as goal

abbrev pub invariant-loop-a : goal.invariant-loop-a
invariant-loop-a l = Lowered (Among l.a (λ j. ByRoads l.d (tables_of l.cells) (claim_in l.d l.table) l.q j 0 l.len)) l.lowest l.low × Scratch l.values l.next
