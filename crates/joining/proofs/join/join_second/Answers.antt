-- `joining::join::join_second` meets its contract: the second list's first fault, or else both are put. Assumes nothing.
use native.Mathlib.Omega.{arith}
use Rattle.course.specs.AcceptedLaws.{accepted-standing}
use Rattle.joining.proofs.JoinLaws.{second-fault, accepted-joined}
use Rattle.joining.proofs.join.join_second.Goals as goal

pub judge_entries-requires-clause-entries_standing : goal.judge_entries-requires-clause-entries_standing
judge_entries-requires-clause-entries_standing c = accepted-standing _ c.requires.both_accepted.two

pub returns-in-Err : goal.returns-in-Err
returns-in-Err c =
    second-fault _ _ _ c.requires.both_accepted _ _ c.requires.entries_passed c.in-Err.ensures.entries_passed

pub returns : goal.returns
returns c =
    let p = c.requires in
    accepted-joined p.holds (λ i. omega (arith, c.type_inv.first i)) (λ i. omega (arith, c.type_inv.second i)) p.both_accepted p.entries_passed c.in_default.ensures.entries_passed _ _ c.put_list.ensures
