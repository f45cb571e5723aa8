-- `judgement::whole::judge` meets its contract: the book first, then the list. Assumes nothing.
use mathlib.Core.Path.{sym}
use Rattle.std.proofs.lemmas.Result.{err_from_is_err_and}
use Rattle.judgement.specs.AdmissionLaws.{judge-unlisted}
use Rattle.judgement.proofs.whole.judge.Goals as goal

pub returns-in_err-rest : goal.returns-in_err-rest
returns-in_err-rest c =
    let p = err_from_is_err_and c.from_residual-in_err-rest.result c.from_residual-in_err-rest.ensures.1 in
    let a = c.args in
    rw (p.1, p.2) (judge-unlisted a.cells.now a.list.now a.work.now a.stack.now (sym c.in_ok-d.ensures) (sym c.in_err-rest.ensures))
