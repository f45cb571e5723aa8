-- `lists::range::admit` meets its contract: each test picks a case of `outside`. Assumes nothing.
use Rattle.std.proofs.Common.{ap, Err}
use borrow.Author.Tests.{lt-ltb, le-ltb, le-leb, lt-leb}
use Rattle.lists.specs.Entry.{outside}
use Rattle.lists.proofs.range.admit.Goals as goal
use Rattle.lists.proofs.range.admit.Goals.{else-least-n-via-then-least-n+else-n-limit, else-least-n-via-else-least-n}

pub returns-then-n-limit : goal.returns-then-n-limit
unfolding outside
returns-then-n-limit c = rw (c.in_ok-v.was, le-leb _ _ c.if-least-n.true, lt-ltb _ _ c.if-n-limit.true)

pub returns : goal.returns
unfolding outside
returns c =
    let e = ap Err c.at.ensures in
    elim c.else-least-n.branch [
      | else-least-n-via-then-least-n+else-n-limit w ↦ rw (c.in_ok-v.was, le-leb _ _ w.if-least-n.true, le-ltb _ _ w.if-n-limit.false) e
      | else-least-n-via-else-least-n w ↦ rw (c.in_ok-v.was, lt-leb _ _ w.if-least-n.false) e
    ]
