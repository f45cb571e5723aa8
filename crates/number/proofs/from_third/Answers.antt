-- `number::from_third` meets its contract: each test picks a case of `third`. Assumes nothing.
use Rattle.std.proofs.Common.{ap, Err}
use borrow.Author.Tests.{le-leb, lt-leb, eq-eqb, ne_eqb}
use lib.ListN.{drop_of_length-le}
use Rattle.number.specs.Number.{third}
use Rattle.number.specs.NumberLaws.{byte_at}
use Rattle.number.proofs.from_third.Goals as goal

pub returns-then-bytes-next : goal.returns-then-bytes-next
unfolding third
returns-then-bytes-next c = rw (drop_of_length-le _ c.if-bytes-next.true) (ap Err c.at.ensures)

pub returns-then-c-eq0 : goal.returns-then-c-eq0
unfolding third
returns-then-c-eq0 c =
    rw (byte_at _ _ c.if-bytes-next.false, eq-eqb _ _ c.if-c-eq0.true) (ap Err c.at-then-c-eq0.ensures)

pub returns-then-c-ge128 : goal.returns-then-c-ge128
unfolding third
returns-then-c-ge128 c =
    rw (byte_at _ _ c.if-bytes-next.false, ne_eqb _ _ c.if-c-eq0.false, le-leb _ _ c.if-c-ge128.true)
    (ap Err c.at-then-c-ge128.ensures)

pub returns : goal.returns
unfolding third
returns c =
    rw (byte_at _ _ c.if-bytes-next.false, ne_eqb _ _ c.if-c-eq0.false, lt-leb _ _ c.if-c-ge128.false)
