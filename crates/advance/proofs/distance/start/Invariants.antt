use Rattle.book.specs.Tables.{tables_of}
use Rattle.advance.specs.Round.{Started}
use Rattle.advance.proofs.distance.start.Given as goal

abbrev pub invariant-loop-q : goal.invariant-loop-q
invariant-loop-q l = Started (tables_of l.cells) l.a l.q l.to
