-- `certificate::check::check_rows` meets its contract. Assumes nothing.
use Rattle.std.proofs.Common.{sym}
use Rattle.std.proofs.lemmas.Result.{err_from_is_err_and}
use Rattle.certificate.proofs.CheckingLaws.{sentences-refused}
use Rattle.certificate.proofs.check.check_rows.Goals as goal

pub returns-in_err-check_sentences : goal.returns-in_err-check_sentences
returns-in_err-check_sentences c =
    let p = err_from_is_err_and c.from_residual.result c.from_residual.ensures.1 in
    rw (p.1, p.2) (sentences-refused _ _ _ _ _ c.requires.accepted c.requires.rows_fit _ (sym c.in_err-check_sentences.ensures))
