-- `book::range::sizes` meets its contract. Assumes nothing.
use Rattle.book.specs.Tables.{sizes_of}
use borrow.Author.Rules.{rules}
use Rattle.book.proofs.range.sizes.Goals as goal

pub returns : goal.returns
unfolding sizes_of
returns c = search rules
