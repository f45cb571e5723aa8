use Rattle.book.specs.Tables.{tables_of}
use Rattle.walk.specs.Scale.{plain}
use Rattle.layers.specs.Crossing.{claim_in}
use Rattle.distances.specs.Distances.{distance_in}
use Rattle.distances.specs.Pass.{LessenedUpto, TowardGoto}
use Rattle.distances.proofs.transition.toward_gotos.Given as goal

abbrev pub invariant-loop-x : goal.invariant-loop-x
invariant-loop-x l = LessenedUpto plain (TowardGoto plain l.d (tables_of l.cells) (claim_in l.d l.table) (distance_in plain l.dist) l.q l.a) l.x l.v l.r
