-- `course::entries::judge_entries` meets its contract: from each entry on the course is as from the first. Assumes nothing.
use mathlib.Core.Path.{refl, sym, ◌∙◌}
use native.Mathlib.Omega.{arith}
use Rattle.std.proofs.lemmas.Result.{err_from_is_err_and}
use Rattle.course.proofs.TurnsLaws.{going-none, going_done, going-spelled, going-count, going-fault, going_more, right-below}
use Rattle.course.specs.EntryLaws.{entry-right}
use borrow.Author.Rules.{rules}
use Rattle.course.proofs.entries.judge_entries.Goals as goal

pub loop-e-init : goal.loop-e-init
loop-e-init c = (refl, refl, going-none c.requires.entries_standing c.requires.places_value)

pub judge_entry-requires-clause-spelled : goal.judge_entry-requires-clause-spelled
judge_entry-requires-clause-spelled c =
    going-spelled c.requires.holds.small.terminals c.loop-e.invariant.2 (sym c.in-Some.ensures)

pub returns-in_err-s-clause-entries_passed : goal.returns-in_err-s-clause-entries_passed
returns-in_err-s-clause-entries_passed c =
    let p = c.requires in
    let going = c.loop-e.invariant.2 in
    let next = sym c.in-Some.ensures in
    let out = err_from_is_err_and c.from_residual.result c.from_residual.ensures.1 in
    rw (out.1, out.2) (going-fault p.holds.small.terminals going next (entry-right p.holds (going-spelled p.holds.small.terminals going next)) _ c.in_err-s.ensures.value)

pub bounds-places-s : goal.bounds-places-s
bounds-places-s c =
    let p = c.requires in
    let going = c.loop-e.invariant.2 in
    let next = sym c.in-Some.ensures in
    right-below _ _ _ _ _ _ (entry-right p.holds (going-spelled p.holds.small.terminals going next)) c.in_ok-s.ensures.value

pub overflow_add-i : goal.overflow_add-i
overflow_add-i c =
    let going = c.loop-e.invariant.2 in
    let next = sym c.in-Some.ensures in
    omega (arith, c.ranges.count, going.number, going-count c.requires.holds.small.terminals going next)

pub loop-e-smaller : goal.loop-e-smaller
loop-e-smaller c =
    let next = sym c.in-Some.ensures in
    omega (arith, going-count c.requires.holds.small.terminals c.loop-e.invariant.2 next)

pub loop-e-preserved : goal.loop-e-preserved
loop-e-preserved c =
    let p = c.requires in
    let going = c.loop-e.invariant.2 in
    let next = sym c.in-Some.ensures in
    (search rules, c.judge_entry.ensures.stack_unchanged ∙ c.loop-e.invariant.1, rw c.least_after-least.ensures (going_more p.holds.small.terminals going next (entry-right p.holds (going-spelled p.holds.small.terminals going next)) _ c.in_ok-s.ensures.value))

pub returns-clause-entries_passed : goal.returns-clause-entries_passed
returns-clause-entries_passed c =
    going_done c.requires.holds.small.terminals c.loop-e.invariant.2 (sym c.in_default.ensures)
