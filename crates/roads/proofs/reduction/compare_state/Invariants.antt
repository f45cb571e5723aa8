use Prim.Native.Nat.{◌-◌}
use Rattle.book.specs.Tables.{tables_of}
use Rattle.walk.specs.Scale.{plain}
use Rattle.layers.specs.Crossing.{claim_in}
use Rattle.layers.specs.Layer.{value_in}
use Rattle.roads.specs.Lowest.{Lowered, Among}
use Rattle.roads.specs.Roads.{ExceededAt}
use Rattle.roads.proofs.reduction.compare_state.Given as goal

abbrev pub invariant-loop-z : goal.invariant-loop-z
invariant-loop-z l = Lowered (Among l.z (λ j. ExceededAt l.d (tables_of l.cells) (claim_in l.d l.table) l.q l.a l.m l.last j (value_in plain l.values l.flags l.last j))) l.lowest l.low
