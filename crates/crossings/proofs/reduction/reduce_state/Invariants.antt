use Prim.Native.Nat.{◌-◌}
use Rattle.book.specs.Tables.{tables_of}
use Rattle.walk.specs.Scale.{plain}
use Rattle.layers.specs.Layer.{value_in}
use Rattle.layers.specs.Crossing.{claim_in}
use Rattle.crossings.specs.Falling.{Pass, Each}
use Rattle.crossings.specs.Pass.{ReductionSettled, TableKept}
use Rattle.crossings.proofs.reduction.reduce_state.Given as goal

abbrev pub invariant-loop-z : goal.invariant-loop-z
invariant-loop-z l = Pass (TableKept plain l.d l.cells) (Each (λ j u. ReductionSettled (tables_of l.cells) l.q l.a l.m l.last j (value_in plain l.values l.flags l.last j) (claim_in l.d u)) l.z) l.n l.initial.table l.table
