-- `number::Cursor::read` meets its contract: each test picks a case of `first`. Assumes nothing.
use Rattle.std.proofs.Common.{ap, Err}
use borrow.Author.Tests.{lt-ltb, le-ltb}
use lib.ListN.{drop_of_length-le}
use Rattle.number.specs.Number.{number_at, first}
use Rattle.number.specs.NumberLaws.{byte_at}
use Rattle.number.proofs.Cursor.read.Goals as goal

pub returns-then-bytes-at : goal.returns-then-bytes-at
unfolding number_at first
returns-then-bytes-at c = rw (drop_of_length-le _ c.if-bytes-at.true) (ap Err c.at.ensures)

pub returns-then-a-lt128 : goal.returns-then-a-lt128
unfolding number_at first
returns-then-a-lt128 c = rw (byte_at _ _ c.if-bytes-at.false, lt-ltb _ _ c.if-a-lt128.true)

pub returns : goal.returns
unfolding number_at first
returns c = rw (byte_at _ _ c.if-bytes-at.false, le-ltb _ _ c.if-a-lt128.false) c.from_second.ensures
