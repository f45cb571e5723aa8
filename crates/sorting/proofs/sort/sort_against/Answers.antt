-- `sorting::sort::sort_against` meets its contract: the list next. Assumes nothing.
use mathlib.Core.Path.{sym}
use Rattle.std.proofs.lemmas.Result.{err_from_is_err_and}
use Rattle.sorting.proofs.SortLaws.{sorts-unlisted, sorts-listed}
use Rattle.sorting.proofs.sort.sort_against.Goals as goal

pub returns-in_err-rest : goal.returns-in_err-rest
returns-in_err-rest c =
    let p = err_from_is_err_and c.from_residual.result c.from_residual.ensures.1 in
    rw (p.1, p.2) (sorts-unlisted _ _ _ _ _ c.requires (sym c.in_err-rest.ensures))

pub returns : goal.returns
returns c = rw (sorts-listed _ _ _ _ c.requires) c.sort_from.ensures
