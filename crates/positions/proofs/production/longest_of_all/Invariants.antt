use Rattle.book.specs.Tables.{tables_of}
use Rattle.positions.specs.Position.{LongestOf}
use Rattle.positions.proofs.production.longest_of_all.Given as goal

abbrev pub invariant-loop-p : goal.invariant-loop-p
invariant-loop-p l = LongestOf (tables_of l.cells) l.p l.r
