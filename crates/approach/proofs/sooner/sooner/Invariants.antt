use Rattle.book.specs.Tables.{tables_of}
use Rattle.walk.specs.Scale.{plain}
use Rattle.layers.specs.Crossing.{claim_in}
use Rattle.approach.specs.SoonerLaws.{SoonerCells}
use Rattle.approach.proofs.sooner.sooner.Given as goal

abbrev pub invariant-loop-k : goal.invariant-loop-k
invariant-loop-k l = SoonerCells plain (tables_of l.cells) (claim_in l.d l.table) l.initial.layer l.k l.layer
