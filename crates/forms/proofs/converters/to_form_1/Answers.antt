-- `forms::converters::to_form_1` meets its contract. Assumes nothing.
use Rattle.std.proofs.Common.{sym}
use Rattle.std.proofs.lemmas.Result.{err_from_is_err_and}
use Rattle.book.specs.BookLaws.{checked-faulty}
use Rattle.book.specs.Book.{of_cells}
use Rattle.forms.specs.Forms.{to_form_1}
use Rattle.forms.proofs.converters.to_form_1.Goals as goal

pub returns-in_err-d : goal.returns-in_err-d
unfolding to_form_1
returns-in_err-d c =
    let p = err_from_is_err_and c.from_residual.result c.from_residual.ensures.1 in
    rw (p.1, p.2, checked-faulty (of_cells c.args.cells.now) _ (sym c.in_err-d.ensures))
