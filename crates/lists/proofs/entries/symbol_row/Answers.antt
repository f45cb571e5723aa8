-- `lists::entries::symbol_row` meets its contract: the row is followed symbol by symbol. Assumes nothing.
use Rattle.std.proofs.Common.{sym, ◌∙◌}
use Rattle.std.proofs.lemmas.Result.{err_from_is_err_and}
use Rattle.book.specs.RowLaws.{turns-none, turns_more, turns-stop, turns-done}
use Rattle.lists.proofs.entries.symbol_row.Goals as goal

pub returns-in_err-next : goal.returns-in_err-next
returns-in_err-next c =
    let p = err_from_is_err_and c.from_residual.result c.from_residual.ensures.1 in
    rw (p.1, p.2) (turns-stop c.loop.invariant c.loop-test.true (sym (rw c.read.ensures at c.in_err-next.ensures)))

pub loop-preserved : goal.loop-preserved
loop-preserved c = turns_more c.loop.invariant c.loop-test.true (sym (rw c.read.ensures at c.in_ok-next.ensures))

pub returns : goal.returns
returns c = turns-done c.loop.invariant c.loop-test.false
