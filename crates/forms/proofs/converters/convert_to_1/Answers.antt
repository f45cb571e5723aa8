-- `forms::converters::convert_to_1` meets its contract. Assumes nothing.
use borrow.Author.Tests.{ltb-false, ltb-true}
use Rattle.std.proofs.lemmas.Result.{err_from_is_err_and}
use Rattle.book.specs.CallLaws.{step-refuses, step-passes}
use native.Mathlib.Omega.{arith}
use Rattle.book.specs.BookLaws.{deliver-short, deliver-whole}
use Rattle.forms.specs.Forms.{in_form_1, to_form_1}
use Rattle.forms.proofs.WritingLaws.{bounds, form1-length, moved-refused, in_order_lem}
use Rattle.forms.proofs.converters.convert_to_1.Goals as goal

pub overflow_mul-d : goal.overflow_mul-d
overflow_mul-d c =
    let b = bounds _ _ c.requires in omega (arith, b.productions)

pub overflow_add-d : goal.overflow_add-d
overflow_add-d c =
    let b = bounds _ _ c.requires in omega (arith, b.productions)

pub overflow_add-d-then-a-d : goal.overflow_add-d-then-a-d
overflow_add-d-then-a-d c =
    let b = bounds _ _ c.requires in omega (arith, b.productions, b.terminals, c.if-a-d.true)

pub returns-then-a-d : goal.returns-then-a-d
returns-then-a-d c =
    let a = c.first_moved-a.ensures in
    rw (c.at.ensures, a) (moved-refused _ _ c.requires _ (rw a at c.if-a-d.true))

pub overflow_sub-n : goal.overflow_sub-n
overflow_sub-n c =
    let b = bounds _ _ c.requires in omega (arith, b.start, c.rank_count.ensures)

pub returns-in_err-refuse_if : goal.returns-in_err-refuse_if
unfolding to_form_1
returns-in_err-refuse_if c =
    let ordered = in_order_lem _ _ c.requires (rw c.first_moved-a.ensures at c.if-a-d.false) in
    let p = err_from_is_err_and c.from_residual.result c.from_residual.ensures.1 in
    let (short, same) = step-refuses _ _ _ c.in_err-refuse_if.ensures in
    rw (p.1, p.2, same) (deliver-short in_form_1 _ _ _ _ ordered (omega (arith, form1-length _ _ c.requires, c.rank_count.ensures, ltb-true _ _ short)))

pub write_plain-requires : goal.write_plain-requires
write_plain-requires c =
    record {
      accepted = c.requires;
      cells_in_bounds = omega (arith, form1-length _ _ c.requires, c.rank_count.ensures, (ltb-false _ _ (step-passes _ _ _ c.in_ok-refuse_if.ensures)));
    }

pub returns : goal.returns
unfolding to_form_1
returns c =
    let ordered = in_order_lem _ _ c.requires (rw c.first_moved-a.ensures at c.if-a-d.false) in
    deliver-whole in_form_1 _ _ _ _ _ _ ordered (omega (arith, form1-length _ _ c.requires, c.rank_count.ensures)) (ltb-false _ _ (step-passes _ _ _ c.in_ok-refuse_if.ensures)) c.write_plain.ensures
