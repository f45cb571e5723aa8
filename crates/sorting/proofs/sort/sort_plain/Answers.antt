-- `sorting::sort::sort_plain` meets its contract: the first fault, or else the list is put. Assumes nothing.
use Rattle.std.proofs.lemmas.Result.{err_from_is_err_and}
use native.Mathlib.Omega.{arith}
use Rattle.course.specs.AcceptedLaws.{accepted-standing}
use Rattle.sorting.proofs.SortLaws.{accepted-fault, accepted-whole, accepted-sorted}
use Rattle.sorting.proofs.sort.sort_plain.Goals as goal

pub judge_entries-requires-clause-entries_standing : goal.judge_entries-requires-clause-entries_standing
judge_entries-requires-clause-entries_standing c = accepted-standing _ c.requires.list_accepted

pub returns-in_err-judge_entries : goal.returns-in_err-judge_entries
returns-in_err-judge_entries c =
    let p = err_from_is_err_and c.from_residual.result c.from_residual.ensures.1 in
    rw (p.1, p.2) (accepted-fault _ c.requires.list_accepted _ _ _ c.in_err-judge_entries.ensures.entries_passed)

pub put_list-requires-clause-states_value : goal.put_list-requires-clause-states_value
put_list-requires-clause-states_value c =
    let p = c.requires in
    accepted-whole p.holds (λ i. omega (arith, c.type_inv.list i)) p.list_accepted c.in_ok-judge_entries.ensures.entries_passed

pub returns : goal.returns
returns c =
    let p = c.requires in
    accepted-sorted p.holds (λ i. omega (arith, c.type_inv.list i)) p.list_accepted c.in_ok-judge_entries.ensures.entries_passed _ _ c.put_list.ensures
