use Rattle.book.specs.Tables.{tables_of}
use Rattle.walk.specs.Scale.{plain}
use Rattle.layers.specs.Crossing.{claim_in}
use Rattle.approach.specs.Approach.{LayersTo}
use Rattle.approach.proofs.near.layers_to.Given as goal

abbrev pub invariant-loop-m : goal.invariant-loop-m
invariant-loop-m l = LayersTo plain l.d (tables_of l.cells) (claim_in l.d l.table) l.s l.z l.m l.due l.layer
