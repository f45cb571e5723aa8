use lib.ListN.{replicate}
use Rattle.book.specs.Tables.{tables_of}
use Rattle.walk.specs.Scale.{plain}
use Rattle.walk.specs.Layers.{cut_at}
use Rattle.layers.specs.Layer.{Sized, value_in}
use Rattle.layers.specs.Crossing.{claim_in}
use Rattle.layers.specs.States.{listed_in}
use Rattle.layers.specs.Step.{TableStep, Upto, LeavesState}
use Rattle.layers.proofs.transition.lengthen_within.Given as goal

abbrev pub invariant-loop-i : goal.invariant-loop-i
invariant-loop-i l = Sized l.d.s l.values l.flags × TableStep plain (Upto (λ j. LeavesState plain l.d l.wanted (tables_of l.cells) (claim_in l.d l.table) (cut_at plain l.bound (value_in plain l.from l.on)) (listed_in l.on j)) l.i) (value_in plain l.initial.values (replicate 257 0)) (value_in plain l.values l.flags)
