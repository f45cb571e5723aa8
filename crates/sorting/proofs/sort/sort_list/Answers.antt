-- `sorting::sort::sort_list` meets its contract: the book first. Assumes nothing.
use mathlib.Core.Path.{sym}
use Rattle.std.proofs.lemmas.Result.{err_from_is_err_and}
use Rattle.sorting.proofs.SortLaws.{sorts-unbooked}
use Rattle.sorting.proofs.sort.sort_list.Goals as goal

pub returns-in_err-d : goal.returns-in_err-d
returns-in_err-d c =
    let p = err_from_is_err_and c.from_residual.result c.from_residual.ensures.1 in
    rw (p.1, p.2) (sorts-unbooked _ _ _ _ (sym c.in_err-d.ensures))
