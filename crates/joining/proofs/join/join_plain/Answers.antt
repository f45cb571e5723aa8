-- `joining::join::join_plain` meets its contract: the first list's first fault, or else the second list. Assumes nothing.
use Rattle.course.specs.AcceptedLaws.{accepted-standing}
use Rattle.joining.proofs.JoinLaws.{first-fault}
use Rattle.joining.proofs.join.join_plain.Goals as goal

pub judge_entries-requires-clause-entries_standing : goal.judge_entries-requires-clause-entries_standing
judge_entries-requires-clause-entries_standing c = accepted-standing _ c.requires.both_accepted.one

pub returns-in-Err : goal.returns-in-Err
returns-in-Err c = first-fault _ _ _ c.requires.both_accepted _ c.in-Err.ensures.entries_passed
