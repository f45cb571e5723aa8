-- `book::parts::head_row` meets its contract. Assumes nothing.
use Rattle.book.specs.RangeLaws.{few-none}
use Rattle.book.specs.Tables.{sizes_of}
use Rattle.book.proofs.parts.head_row.Goals as goal

pub returns : goal.returns
unfolding sizes_of
returns c = c.part_row.ensures
