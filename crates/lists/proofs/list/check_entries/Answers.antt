-- `lists::list::check_entries` meets its contract: the count, the entries, and the end. Assumes nothing.
use Rattle.std.proofs.Common.{sym, ◌∙◌}
use Rattle.std.proofs.lemmas.Result.{err_from_is_err_and}
use Rattle.lists.proofs.ListLaws.{listing-stop, listing-end, closing-stops, closing-passes}
use Rattle.lists.proofs.list.check_entries.Goals as goal

pub returns-in_err-n : goal.returns-in_err-n
returns-in_err-n c =
    let p = err_from_is_err_and c.from_residual.result c.from_residual.ensures.1 in
    rw (p.1, p.2) (listing-stop _ _ _ (rw c.read.ensures at (sym c.in_err-n.ensures)))

pub returns-in_err-end : goal.returns-in_err-end
returns-in_err-end c =
    let p = err_from_is_err_and c.from_residual-in_err-end.result c.from_residual-in_err-end.ensures.1 in
    rw (p.1, p.2) (listing-end _ _ _ _ (rw c.read.ensures at (sym c.in_ok-n.ensures)) c.in_err-end.ensures)

pub returns-in_err-refuse_if : goal.returns-in_err-refuse_if
returns-in_err-refuse_if c =
    let p = err_from_is_err_and c.from_residual-in_err-refuse_if.result c.from_residual-in_err-refuse_if.ensures.1 in
    rw (p.1, p.2) (closing-stops _ _ _ _ c.in_err-refuse_if.ensures ∙ listing-end _ _ _ _ (rw c.read.ensures at (sym c.in_ok-n.ensures)) c.in_ok-end.ensures)

pub returns : goal.returns
returns c = closing-passes _ _ _ _ c.in_ok-refuse_if.ensures ∙ listing-end _ _ _ _ (rw c.read.ensures at (sym c.in_ok-n.ensures)) c.in_ok-end.ensures
