use Rattle.book.specs.Tables.{tables_of}
use Rattle.walk.specs.Scale.{plain}
use Rattle.layers.specs.Layer.{Sized, value_in}
use Rattle.layers.specs.Step.{TableStep, GotosBy}
use Rattle.layers.proofs.transition.gotos_from.Given as goal

abbrev pub invariant-loop-x : goal.invariant-loop-x
invariant-loop-x l = Sized l.d.s l.values l.flags × TableStep plain (GotosBy plain l.d l.wanted (tables_of l.cells) l.table l.q l.offsets l.costs l.n l.x) (value_in plain l.initial.values l.initial.flags) (value_in plain l.values l.flags)
