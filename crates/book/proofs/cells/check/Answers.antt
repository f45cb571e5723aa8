-- `book::cells::check` meets its contract: the head, the parts after it, and the end. Assumes nothing.
use mathlib.Core.Path.{sym, ◌∙◌}
use Rattle.book.specs.BookLaws.{cells-head, sizes-take, ends-refused, checked-stop, checked-cells}
use Rattle.book.specs.Book.{of_cells}
use Rattle.std.proofs.lemmas.Result.{err_from_is_err_and}
use Rattle.book.specs.RangeLaws.{few}
use Rattle.book.proofs.cells.check.Goals as goal

pub sizes-d-requires : goal.sizes-d-requires
sizes-d-requires c = (cells-head _ _ (sym c.in_ok-start.ensures)).0

pub body_rows-requires : goal.body_rows-requires
body_rows-requires c =
    few (rw c.sizes-d.ensures (rw sizes-take at (cells-head _ _ (sym c.in_ok-start.ensures)).1.small))

pub returns-in_err-start : goal.returns-in_err-start
unfolding of_cells
returns-in_err-start c =
    let p = err_from_is_err_and c.from_residual.result c.from_residual.ensures.1 in
    rw (p.1, p.2) (checked-stop _ _ _ (ends-refused _ _ (sym c.in_err-start.ensures)))

pub returns-in_err-end : goal.returns-in_err-end
returns-in_err-end c =
    let h = (cells-head _ _ (sym c.in_ok-start.ensures)).1 in
    let p = err_from_is_err_and c.from_residual-in_err-end.result c.from_residual-in_err-end.ensures.1 in
    rw (p.1, p.2) (checked-cells _ _ h (rw c.sizes-d.ensures at c.in_err-end.ensures))

pub returns : goal.returns
returns c =
    let h = (cells-head _ _ (sym c.in_ok-start.ensures)).1 in
    c.close.ensures ∙ rw c.sizes-d.ensures (checked-cells _ _ h (rw c.sizes-d.ensures at c.in_ok-end.ensures))
