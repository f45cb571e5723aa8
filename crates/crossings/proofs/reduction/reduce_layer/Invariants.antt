use Prim.Native.Nat.{◌-◌}
use Rattle.book.specs.Tables.{tables_of}
use Rattle.walk.specs.Scale.{plain}
use Rattle.layers.specs.Layer.{value_in}
use Rattle.layers.specs.Crossing.{claim_in}
use Rattle.layers.specs.States.{listed_in}
use Rattle.crossings.specs.Falling.{Pass, Each}
use Rattle.crossings.specs.Pass.{ReductionSettled, TableKept}
use Rattle.crossings.proofs.reduction.reduce_layer.Given as goal

abbrev pub invariant-loop-i : goal.invariant-loop-i
invariant-loop-i l = Pass (TableKept plain l.d l.cells) (Each (λ j. Each (λ z u. ReductionSettled (tables_of l.cells) l.q l.a l.m (listed_in l.flags j) z (value_in plain l.values l.flags (listed_in l.flags j) z) (claim_in l.d u)) l.d.t) l.i) l.n l.initial.table l.table
