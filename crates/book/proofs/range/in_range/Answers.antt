-- `book::range::in_range` meets its contract: each part is a case of `fits`. Assumes nothing.
use borrow.Author.Tests.{le-leb, lt-leb, le-ltb, lt-ltb, eq-eqb, ne_eqb}
use native.Mathlib.Omega.{arith}
use Rattle.book.specs.Range.{fits}
use Rattle.book.specs.RangeLaws.{factor-some}
use Rattle.book.proofs.range.in_range.Goals as goal

pub returns-then-i-eq0 : goal.returns-then-i-eq0
unfolding fits
returns-then-i-eq0 c = rw (c.in-Productions.is, eq-eqb _ _ c.if-i-eq0.true)

pub returns-then-v-d : goal.returns-then-v-d
unfolding fits
returns-then-v-d c = rw (c.in-Ranks.is, le-ltb _ _ c.if-v-d.true)

pub returns-then-i-v : goal.returns-then-i-v
unfolding fits
returns-then-i-v c = rw (c.in-Head.is, le-leb _ _ c.if-i-v.true)

pub returns-else-i-v : goal.returns-else-i-v
unfolding fits
returns-else-i-v c = rw (c.in-Head.is, lt-leb _ _ c.if-i-v.false)

pub returns-else-i-eq0 : goal.returns-else-i-eq0
unfolding fits
returns-else-i-eq0 c = rw (c.in-Productions.is, ne_eqb _ _ c.if-i-eq0.false)

pub returns-else-v-d : goal.returns-else-v-d
unfolding fits
returns-else-v-d c = rw (c.in-Ranks.is, lt-ltb _ _ c.if-v-d.false, c.contains.ensures)

pub returns-in-Actions : goal.returns-in-Actions
unfolding fits
returns-in-Actions c = rw c.in-Actions.is c.action_allowed.ensures

pub returns-in-Gotos : goal.returns-in-Gotos
unfolding fits
returns-in-Gotos c = rw c.in-Gotos.is
