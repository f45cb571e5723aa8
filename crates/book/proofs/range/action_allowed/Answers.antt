-- `book::range::action_allowed` meets its contract: each kind of action is a case of `allowed`. Assumes nothing.
use native.Mathlib.Omega.{arith}
use borrow.Author.Tests.{eq-eqb, ne_eqb}
use Rattle.book.specs.Range.{allowed}
use Rattle.book.specs.WidthLaws.{action-over}
use Rattle.book.proofs.range.action_allowed.Goals as goal

pub returns-then-v-gt65535 : goal.returns-then-v-gt65535
returns-then-v-gt65535 c = action-over _ c.requires _ _ (omega (arith, c.if-v-gt65535.true))

pub returns-then-t-eq0 : goal.returns-then-t-eq0
unfolding allowed
returns-then-t-eq0 c = rw (← c.decode.ensures, c.in-Shift.is, eq-eqb _ _ c.if-t-eq0.true)

pub returns-in-Error : goal.returns-in-Error
unfolding allowed
returns-in-Error c = rw (← c.decode.ensures, c.in-Error.is)

pub returns-in-Accept : goal.returns-in-Accept
unfolding allowed
returns-in-Accept c = rw (← c.decode.ensures, c.in-Accept.is)

pub returns-else-t-eq0 : goal.returns-else-t-eq0
unfolding allowed
returns-else-t-eq0 c = rw (← c.decode.ensures, c.in-Shift.is, ne_eqb _ _ c.if-t-eq0.false)

pub returns-in-Reduce : goal.returns-in-Reduce
unfolding allowed
returns-in-Reduce c = rw (← c.decode.ensures, c.in-Reduce.is)
