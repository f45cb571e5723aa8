-- `book::tables::production_length` meets its contract. Assumes nothing.
use Rattle.book.proofs.TablesLaws.{len-inside}
use Rattle.book.proofs.tables.production_length.Goals as goal

pub returns : goal.returns
returns c = rw (len-inside c.requires.holds c.args.p c.requires.p_lt_p)
