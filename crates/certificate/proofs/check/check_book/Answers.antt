-- `certificate::check::check_book` meets its contract: the plain cells have the book's tables. Assumes nothing.
use Rattle.certificate.proofs.CheckingLaws.{lent-plain, claims-checked}
use Rattle.certificate.proofs.check.check_book.Goals as goal

pub check_claims-requires : goal.check_claims-requires
check_claims-requires c =
    let s = c in
    rw (c.plain_cells-n.ensures.0, c.plain_sizes.ensures) (lent-plain _ _ _ _ _ c.requires.accepted c.requires.rows_fit c.requires.admitted)

pub returns : goal.returns
returns c =
    let s = c in
    claims-checked _ _ _ _ _ c.requires.accepted c.requires.rows_fit c.requires.admitted (rw (c.plain_cells-n.ensures.0, c.plain_sizes.ensures) at c.check_claims.ensures)
