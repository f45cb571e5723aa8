-- `joining::join::join_against` meets its contract: the first list next. Assumes nothing.
use mathlib.Core.Path.{sym}
use Rattle.course.specs.AcceptedLaws.{list-accepted}
use Rattle.joining.proofs.JoinLaws.{first-unlisted}
use Rattle.joining.proofs.join.join_against.Goals as goal

pub join_with-requires : goal.join_with-requires
join_with-requires c =
    record {
      accepted = c.requires;
      list_accepted = list-accepted _ _ (sym c.in-Ok.ensures);
    }

pub returns-in-Err : goal.returns-in-Err
returns-in-Err c = first-unlisted _ _ _ _ _ _ (sym c.in-Err.ensures)
