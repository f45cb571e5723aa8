-- `number::from_second` meets its contract: each test picks a case of `second`. Assumes nothing.
use Rattle.std.proofs.Common.{ap, Err}
use native.Mathlib.Nat.{add_assoc}
use borrow.Author.Tests.{lt-ltb, le-ltb, eq-eqb, ne_eqb}
use lib.ListN.{drop_of_length-le}
use Rattle.number.specs.Number.{second}
use Rattle.number.specs.NumberLaws.{byte_at}
use Rattle.number.proofs.from_second.Goals as goal

pub returns-then-bytes-next : goal.returns-then-bytes-next
unfolding second
returns-then-bytes-next c = rw (drop_of_length-le _ c.if-bytes-next.true) (ap Err c.at.ensures)

pub returns-then-b-eq0 : goal.returns-then-b-eq0
unfolding second
returns-then-b-eq0 c =
    rw (byte_at _ _ c.if-bytes-next.false, eq-eqb _ _ c.if-b-eq0.true) (ap Err c.at-then-b-eq0.ensures)

pub returns-then-b-lt128 : goal.returns-then-b-lt128
unfolding second
returns-then-b-lt128 c =
    rw (byte_at _ _ c.if-bytes-next.false, ne_eqb _ _ c.if-b-eq0.false, lt-ltb _ _ c.if-b-lt128.true)

pub returns : goal.returns
unfolding second
returns c =
    rw (byte_at _ _ c.if-bytes-next.false, add_assoc, ne_eqb _ _ c.if-b-eq0.false, le-ltb _ _ c.if-b-lt128.false)
    c.from_third.ensures
