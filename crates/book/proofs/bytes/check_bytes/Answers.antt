-- `book::bytes::check_bytes` meets its contract: the head, the parts after it, and the end. Assumes nothing.
use mathlib.Core.Path.{sym, ◌∙◌}
use Rattle.book.specs.BookLaws.{headed, headed-over, ends-refused, checked-stop, checked_end}
use Rattle.book.specs.Book.{of_bytes}
use Rattle.book.specs.RangeLaws.{few}
use Rattle.book.specs.WidthLaws.{headed-cells}
use Rattle.std.proofs.lemmas.Result.{err_from_is_err_and}
use native.Mathlib.Omega.{arith}
use Rattle.book.proofs.bytes.check_bytes.Goals as goal

pub decode_row-requires : goal.decode_row-requires
decode_row-requires c =
    record {
      n_in_bounds = omega arith;
      cells = headed-cells (headed _ _ (sym c.in_ok-start.ensures));
    }

pub body_rows-requires : goal.body_rows-requires
body_rows-requires c =
    let h = headed _ _ (sym c.in_ok-start.ensures) in
    few (rw (c.sizes-d.ensures, c.decode_row.ensures, headed-over h) h.small)

pub returns-in_err-start : goal.returns-in_err-start
unfolding of_bytes
returns-in_err-start c =
    let p = err_from_is_err_and c.from_residual.result c.from_residual.ensures.1 in
    rw (p.1, p.2) (checked-stop _ _ _ (ends-refused _ _ (sym c.in_err-start.ensures)))

pub returns-in_err-end : goal.returns-in_err-end
unfolding of_bytes
returns-in_err-end c =
    let h = headed _ _ (sym c.in_ok-start.ensures) in
    let p = err_from_is_err_and c.from_residual-in_err-end.result c.from_residual-in_err-end.ensures.1 in
    rw (p.1, p.2) (checked_end _ _ h.is (rw (c.sizes-d.ensures, c.decode_row.ensures, headed-over h) at c.in_err-end.ensures))

pub returns : goal.returns
unfolding of_bytes
returns c =
    let h = headed _ _ (sym c.in_ok-start.ensures) in
    c.close.ensures ∙ rw (c.sizes-d.ensures, c.decode_row.ensures, headed-over h) (checked_end _ _ h.is (rw (c.sizes-d.ensures, c.decode_row.ensures, headed-over h) at c.in_ok-end.ensures))
