-- `lists::list::entry_row` meets its contract: the list is followed entry by entry. Assumes nothing.
use Rattle.std.proofs.Common.{sym}
use Rattle.std.proofs.lemmas.Result.{err_from_is_err_and}
use Rattle.lists.proofs.ListLaws.{list-passed-none, list-passed-more, passed-stop, passed-done}
use Rattle.lists.proofs.list.entry_row.Goals as goal

pub returns-in_err-next : goal.returns-in_err-next
returns-in_err-next c =
    let p = err_from_is_err_and c.from_residual.result c.from_residual.ensures.1 in
    rw (p.1, p.2) (passed-stop c.loop.invariant c.loop-test.true (sym c.in_err-next.ensures))

pub loop-preserved : goal.loop-preserved
loop-preserved c = list-passed-more c.loop.invariant c.loop-test.true (sym c.in_ok-next.ensures)

pub returns : goal.returns
returns c = passed-done c.loop.invariant c.loop-test.false
