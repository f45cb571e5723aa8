-- `book::tables::left_side` meets its contract. Assumes nothing.
use Rattle.book.proofs.TablesLaws.{lhs-inside}
use Rattle.book.proofs.tables.left_side.Goals as goal

pub returns : goal.returns
returns c = rw (lhs-inside c.requires.holds c.args.p c.requires.p_lt_p)
