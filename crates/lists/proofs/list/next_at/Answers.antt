-- `lists::list::next_at` meets its contract. Assumes nothing.
use borrow.Author.Tests.{eq-eqb, ne_eqb}
use Rattle.lists.specs.List.{next_at}
use Rattle.lists.proofs.list.next_at.Goals as goal

pub returns-then-left-eq0 : goal.returns-then-left-eq0
unfolding next_at
returns-then-left-eq0 c = rw (eq-eqb _ _ c.if-left-eq0.true)

pub returns-in-Err : goal.returns-in-Err
unfolding next_at
returns-in-Err c = rw (ne_eqb _ _ c.if-left-eq0.false, ← c.in-Err.ensures)

pub returns-in-Ok : goal.returns-in-Ok
unfolding next_at
returns-in-Ok c = rw (ne_eqb _ _ c.if-left-eq0.false, ← c.in-Ok.ensures)
