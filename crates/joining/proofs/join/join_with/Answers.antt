-- `joining::join::join_with` meets its contract: the second list next. Assumes nothing.
use mathlib.Core.Path.{sym}
use Rattle.course.specs.AcceptedLaws.{list-accepted}
use Rattle.joining.proofs.JoinLaws.{second-unlisted}
use Rattle.joining.proofs.join.join_with.Goals as goal

pub join_from-requires : goal.join_from-requires
join_from-requires c =
    let p = c.requires in
    record {
      accepted = p.accepted;
      both_accepted = record { one = p.list_accepted; two = list-accepted _ _ (sym c.in-Ok.ensures) };
    }

pub returns-in-Err : goal.returns-in-Err
returns-in-Err c =
    second-unlisted _ _ _ _ _ _ c.requires.list_accepted (sym c.in-Err.ensures)
