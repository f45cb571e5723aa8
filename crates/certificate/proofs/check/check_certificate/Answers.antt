-- `certificate::check::check_certificate` meets its contract: the book first. Assumes nothing.
use Rattle.std.proofs.Common.{sym}
use Rattle.std.proofs.lemmas.Result.{err_from_is_err_and}
use Rattle.certificate.proofs.CheckingLaws.{book-refused}
use Rattle.certificate.proofs.check.check_certificate.Goals as goal

pub returns-in_err-d : goal.returns-in_err-d
returns-in_err-d c =
    let p = err_from_is_err_and c.from_residual.result c.from_residual.ensures.1 in
    rw (p.1, p.2) (book-refused _ _ _ _ _ (sym c.in_err-d.ensures))
