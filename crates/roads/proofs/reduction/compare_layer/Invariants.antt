use Prim.Native.Nat.{◌-◌}
use Rattle.book.specs.Tables.{tables_of}
use Rattle.walk.specs.Scale.{plain}
use Rattle.layers.specs.Crossing.{claim_in}
use Rattle.layers.specs.Layer.{value_in}
use Rattle.layers.specs.States.{listed_in}
use Rattle.roads.specs.Lowest.{Lowered, Among}
use Rattle.roads.specs.Roads.{ExceededAt}
use Rattle.roads.proofs.reduction.compare_layer.Given as goal

abbrev pub invariant-loop-i : goal.invariant-loop-i
invariant-loop-i l = Lowered (Among l.i (λ j. Among l.d.t (λ z. ExceededAt l.d (tables_of l.cells) (claim_in l.d l.table) l.q l.a l.m (listed_in l.flags j) z (value_in plain l.values l.flags (listed_in l.flags j) z)))) l.lowest l.low
