use Rattle.book.specs.Tables.{tables_of}
use Rattle.positions.specs.Position.{Positions}
use Rattle.positions.proofs.position.mark_all.Given as goal

abbrev pub invariant-loop-k : goal.invariant-loop-k
invariant-loop-k l = Positions l.whole (tables_of l.cells) l.k l.positions
