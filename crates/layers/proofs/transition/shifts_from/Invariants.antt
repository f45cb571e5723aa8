use Rattle.book.specs.Tables.{tables_of}
use Rattle.walk.specs.Scale.{plain}
use Rattle.layers.specs.Layer.{Sized, value_in}
use Rattle.layers.specs.Step.{TableStep, ShiftsBy}
use Rattle.layers.proofs.transition.shifts_from.Given as goal

abbrev pub invariant-loop-k : goal.invariant-loop-k
invariant-loop-k l = Sized l.d.s l.values l.flags × TableStep plain (ShiftsBy plain l.d l.wanted (tables_of l.cells) l.q l.terminals l.costs l.k) (value_in plain l.initial.values l.initial.flags) (value_in plain l.values l.flags)
