-- `book::parts::part_row` meets its contract: the row is followed number by number. Assumes nothing.
use Rattle.std.proofs.Common.{sym, ◌∙◌}
use Rattle.std.proofs.lemmas.Result.{err_from_is_err_and}
use Rattle.book.specs.PartsLaws.{numbers}
use Rattle.book.proofs.SeenLaws.{marks-none, marks-more, marks-admitted}
use Rattle.book.specs.RowLaws.{turns-none, turns_more, turns-stop, turns-done}
use Rattle.book.proofs.parts.part_row.Goals as goal

pub loop-i-init : goal.loop-i-init
loop-i-init c = (turns-none, marks-none c.args.part)

pub returns-in_err-v : goal.returns-in_err-v
returns-in_err-v c =
    let (t, m) = c.loop-i.invariant in
    let n = numbers c.args.source c.loop-i.at in
    let found = sym (marks-admitted c.args.d c.args.part c.loop-i.ranks c.loop-i.i t.seen c.loop-i.at n c.requires.terminals m t.count) ∙ sym (rw c.number_at.ensures at c.in_err-v.ensures) in
    let p = err_from_is_err_and c.from_residual.result c.from_residual.ensures.1 in
    rw (p.1, p.2) (turns-stop t (rw (← c.part_length-i-end.ensures) c.loop-i-test.true) found)

pub loop-i-preserved : goal.loop-i-preserved
loop-i-preserved c =
    let (t, m) = c.loop-i.invariant in
    let n = numbers c.args.source c.loop-i.at in
    let found = sym (marks-admitted c.args.d c.args.part c.loop-i.ranks c.loop-i.i t.seen c.loop-i.at n c.requires.terminals m t.count) ∙ sym (rw c.number_at.ensures at c.in_ok-v.ensures) in
    (turns_more t (rw (← c.part_length-i-end.ensures) c.loop-i-test.true) found, rw c.mark-ranks.ensures (marks-more c.args.part c.loop-i.ranks t.seen _ m))

pub returns : goal.returns
returns c = turns-done c.loop-i.invariant.0 (rw (← c.part_length-i-end.ensures) c.loop-i-test.false)
