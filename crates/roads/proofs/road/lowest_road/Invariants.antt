use Prim.Native.Nat.{◌-◌}
use Rattle.book.specs.Tables.{tables_of}
use Rattle.layers.specs.Crossing.{claim_in}
use Rattle.layers.specs.Layer.{Scratch}
use Rattle.roads.specs.Lowest.{Lowered, Among}
use Rattle.roads.specs.Roads.{ByRoads}
use Rattle.roads.proofs.road.lowest_road.Given as goal

abbrev pub invariant-loop-q : goal.invariant-loop-q
invariant-loop-q l = Lowered (Among l.q (λ j. Among l.d.t (λ a. ByRoads l.d (tables_of l.cells) (claim_in l.d l.table) j a 0 l.len))) l.top l.low × Scratch l.values l.next
