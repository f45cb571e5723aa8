-- `lists::list::check_list` meets its contract: the book, then the list. Assumes nothing.
use Rattle.std.proofs.Common.{sym, ◌∙◌, ap}
use Rattle.std.proofs.lemmas.Result.{err_from_is_err_and}
use Rattle.lists.specs.List.{listing}
use Rattle.lists.proofs.ListLaws.{against-stop, against-on}
use Rattle.lists.proofs.list.check_list.Goals as goal

pub returns-in_err-d : goal.returns-in_err-d
returns-in_err-d c =
    let p = err_from_is_err_and c.from_residual.result c.from_residual.ensures.1 in
    rw (p.1, p.2) (against-stop _ _ _ (sym c.in_err-d.ensures))

pub returns : goal.returns
returns c = c.check_entries.ensures ∙ ap (listing _) (against-on _ _ _ (sym c.in_ok-d.ensures))
