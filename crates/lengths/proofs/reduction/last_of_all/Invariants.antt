use Rattle.book.specs.Tables.{tables_of}
use Rattle.lengths.specs.Lengths.{LastFailing}
use Rattle.lengths.proofs.reduction.last_of_all.Given as goal

abbrev pub invariant-loop-p : goal.invariant-loop-p
invariant-loop-p l = LastFailing l.missing (tables_of l.cells) l.p l.r
