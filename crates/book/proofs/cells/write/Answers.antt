-- `book::cells::write` meets its contract: what was checked is encoded. Assumes nothing.
use mathlib.Core.Path.{sym, ◌∙◌}
use native.Mathlib.Omega.{arith}
use borrow.Author.Tests.{ltb-false, ltb-true}
use Rattle.std.proofs.lemmas.Result.{err_from_is_err_and}
use Rattle.book.specs.CallLaws.{step-refuses, step-passes}
use Rattle.book.specs.BookLaws.{cells-valid, deliver-stop, deliver-short, deliver-whole, checked-faulty}
use Rattle.book.specs.Book.{of_cells, bytes_of, writing}
use Rattle.book.proofs.cells.write.Goals as goal

pub returns-in_err-check : goal.returns-in_err-check
unfolding writing
returns-in_err-check c =
    let book = of_cells c.args.cells.now in
    let p = err_from_is_err_and c.from_residual.result c.from_residual.ensures.1 in
    rw (p.1, p.2) (deliver-stop bytes_of book _ _ (checked-faulty book _ (sym c.in_err-check.ensures)))

pub returns-in_err-refuse_if : goal.returns-in_err-refuse_if
unfolding writing
returns-in_err-refuse_if c =
    let p = err_from_is_err_and c.from_residual-in_err-refuse_if.result c.from_residual-in_err-refuse_if.ensures.1 in
    let (short, same) = step-refuses _ _ _ c.in_err-refuse_if.ensures in
    rw (p.1, p.2, same) (deliver-short _ _ _ _ _ (cells-valid _ _ (sym c.in_ok-check.ensures)) (omega (arith, ltb-true _ _ short, c.byte_count-n.ensures)))

pub returns : goal.returns
unfolding writing
returns c =
    deliver-whole _ _ _ _ _ _ _ (cells-valid _ _ (sym c.in_ok-check.ensures)) c.byte_count-n.ensures (ltb-false _ _ (step-passes _ _ _ c.in_ok-refuse_if.ensures)) c.encode_row.ensures
