-- `book::range::fault_cause` meets its contract: each part is a case of `fault_cause`. Assumes nothing.
use borrow.Author.Tests.{eq-eqb, ne_eqb}
use Rattle.book.specs.Range.{fault_cause}
use Rattle.book.proofs.range.fault_cause.Goals as goal

pub returns-then-i-eq0 : goal.returns-then-i-eq0
unfolding fault_cause
returns-then-i-eq0 c = rw (c.in-Head.is, eq-eqb _ _ c.if-i-eq0.true)

pub returns-else-i-eq0 : goal.returns-else-i-eq0
unfolding fault_cause
returns-else-i-eq0 c = rw (c.in-Head.is, ne_eqb _ _ c.if-i-eq0.false)

pub returns-in-Productions : goal.returns-in-Productions
unfolding fault_cause
returns-in-Productions c = rw c.in-Productions.is

pub returns-in-Ranks : goal.returns-in-Ranks
unfolding fault_cause
returns-in-Ranks c = rw c.in-Ranks.is

pub returns-in-Actions : goal.returns-in-Actions
unfolding fault_cause
returns-in-Actions c = rw c.in-Actions.is

pub returns-in-Gotos : goal.returns-in-Gotos
unfolding fault_cause
returns-in-Gotos c = rw c.in-Gotos.is
