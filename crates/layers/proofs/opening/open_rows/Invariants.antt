use Rattle.book.specs.Tables.{tables_of}
use Rattle.layers.specs.OpeningLaws.{FirstRows}
use Rattle.layers.proofs.opening.open_rows.Given as goal

abbrev pub invariant-loop-k : goal.invariant-loop-k
invariant-loop-k l = FirstRows l.d (tables_of l.cells) l.k l.rows
