-- `joining::join::join_lists` meets its contract: the book first. Assumes nothing.
use mathlib.Core.Path.{sym}
use Rattle.std.proofs.lemmas.Result.{err_from_is_err_and}
use Rattle.joining.proofs.JoinLaws.{joins-unbooked, joins-booked}
use Rattle.joining.proofs.join.join_lists.Goals as goal

pub join_against-requires : goal.join_against-requires
join_against-requires c = sym c.in_ok-d.ensures

pub returns-in_err-d : goal.returns-in_err-d
returns-in_err-d c =
    let p = err_from_is_err_and c.from_residual.result c.from_residual.ensures.1 in
    rw (p.1, p.2) (joins-unbooked _ _ _ _ _ (sym c.in_err-d.ensures))

pub returns : goal.returns
returns c = rw (joins-booked _ _ _ _ _ (sym c.in_ok-d.ensures)) c.join_against.ensures
