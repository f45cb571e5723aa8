-- `book::parts::cell_at` meets its contract. Assumes nothing.
use Rattle.std.proofs.Common.{ap, Err}
use borrow.Author.Tests.{lt-ltb, le-ltb}
use Rattle.book.specs.Book.{cell_at}
use Rattle.book.proofs.parts.cell_at.Goals as goal

pub returns-then-i-cells : goal.returns-then-i-cells
unfolding cell_at
returns-then-i-cells c = rw (lt-ltb _ _ c.if-i-cells.true)

pub returns : goal.returns
unfolding cell_at
returns c = rw (le-ltb _ _ c.if-i-cells.false) (ap Err c.at.ensures)
