-- `certificate::check::check_against` meets its contract. Assumes nothing.
use Rattle.std.proofs.Common.{sym}
use Rattle.std.proofs.lemmas.Result.{err_from_is_err_and}
use Rattle.book.proofs.TablesLaws.{accepted-book}
use Rattle.certificate.proofs.CheckingLaws.{rows-refused}
use Rattle.certificate.proofs.check.check_against.Goals as goal

pub admit_rows-requires : goal.admit_rows-requires
admit_rows-requires c = (accepted-book _ _ c.requires).small

pub returns-in_err-admit_rows : goal.returns-in_err-admit_rows
returns-in_err-admit_rows c =
    let p = err_from_is_err_and c.from_residual.result c.from_residual.ensures.1 in
    rw (p.1, p.2) (rows-refused _ _ _ _ _ c.requires _ (sym c.in_err-admit_rows.ensures))
