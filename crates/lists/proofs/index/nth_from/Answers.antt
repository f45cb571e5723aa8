-- `lists::index::nth_from` meets its contract: the entries before the one of that index are passed. Assumes nothing.
use Rattle.std.proofs.Common.{sym}
use Rattle.lists.proofs.NthLaws.{skipped-none, skipped-more, skipped-stop, skipped-done}
use Rattle.lists.proofs.index.nth_from.Goals as goal

pub loop-init : goal.loop-init
loop-init c = skipped-none

pub returns-in_err-more : goal.returns-in_err-more
returns-in_err-more c = rw c.from_residual.ensures (record { is = skipped-stop c.loop.invariant (sym c.in_err-more.ensures) })

pub loop-preserved : goal.loop-preserved
loop-preserved c = skipped-more c.loop.invariant c.loop-test.true (sym c.in_ok-more.ensures)

pub returns-in_err-entry : goal.returns-in_err-entry
returns-in_err-entry c = rw c.from_residual-in_err-entry.ensures (record { is = skipped-stop c.loop.invariant (sym c.in_err-entry.ensures) })

pub returns : goal.returns
returns c = record { is = skipped-done c.loop.invariant c.loop-test.false (sym c.in_ok-entry.ensures) }
