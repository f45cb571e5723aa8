-- `course::entries::weigh` meets its contract: the tests pick a case of `weighed`. Assumes nothing.
use borrow.Author.Tests.{eq-eqb, ne_eqb, lt-ltb, le-ltb}
use mathlib.Core.Path.{sym, ◌∙◌}
use Rattle.course.specs.Turns.{weighed}
use Rattle.course.proofs.entries.weigh.Goals as goal

pub returns-then-not-is_right : goal.returns-then-not-is_right
unfolding weighed
returns-then-not-is_right c = rw (sym c.is_right.ensures ∙ c.if-not-is_right.true)

pub returns-then-s-least : goal.returns-then-s-least
unfolding weighed
returns-then-s-least c =
    rw (sym c.is_right.ensures ∙ c.if-not-is_right.false, ← c.stop_of-s.ensures, lt-ltb _ _ c.if-s-least.true)

pub returns-then-places-s-ne0 : goal.returns-then-places-s-ne0
unfolding weighed
returns-then-places-s-ne0 c =
    rw (sym c.is_right.ensures ∙ c.if-not-is_right.false, ← c.stop_of-s.ensures, le-ltb _ _ c.if-s-least.false, ne_eqb _ _ c.if-places-s-ne0.true)

pub returns : goal.returns
unfolding weighed
returns c =
    rw (sym c.is_right.ensures ∙ c.if-not-is_right.false, ← c.stop_of-s.ensures, le-ltb _ _ c.if-s-least.false, eq-eqb _ _ c.if-places-s-ne0.false)
