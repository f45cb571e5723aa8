-- `opening::opening::prepare` meets its contract: the book first. Assumes nothing.
use mathlib.Core.Path.{sym}
use Rattle.std.proofs.lemmas.Result.{err_from_is_err_and}
use Rattle.opening.proofs.opening.prepare.Goals as goal

pub prepare_in-requires : goal.prepare_in-requires
prepare_in-requires c = sym c.in_ok-d.ensures

pub returns-in_err-d : goal.returns-in_err-d
returns-in_err-d c =
    let p = err_from_is_err_and c.from_residual.result c.from_residual.ensures.1 in
    record { ends = rw (p.1, p.2, ← c.in_err-d.ensures) }
