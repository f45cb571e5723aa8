-- `forms::converters::convert_to_2` meets its contract. Assumes nothing.
use borrow.Author.Tests.{ltb-false, ltb-true}
use Rattle.std.proofs.lemmas.Result.{err_from_is_err_and}
use Rattle.book.specs.CallLaws.{step-refuses, step-passes}
use native.Mathlib.Omega.{arith}
use Rattle.book.specs.BookLaws.{deliver-short, deliver-whole}
use Rattle.book.proofs.TablesLaws.{accepted-book}
use Rattle.forms.specs.Forms.{in_form_2, to_form_2}
use Rattle.forms.proofs.WritingLaws.{bounds, form2-length}
use Rattle.forms.proofs.converters.convert_to_2.Goals as goal

pub overflow_sub-n : goal.overflow_sub-n
overflow_sub-n c =
    let b = bounds _ _ c.requires in omega (arith, b.start, c.rank_count.ensures)

pub overflow_add-n : goal.overflow_add-n
overflow_add-n c =
    let b = bounds _ _ c.requires in omega (arith, b.most, b.ranks, b.terminals)

pub returns-in_err-refuse_if : goal.returns-in_err-refuse_if
unfolding to_form_2
returns-in_err-refuse_if c =
    let p = err_from_is_err_and c.from_residual.result c.from_residual.ensures.1 in
    let (short, same) = step-refuses _ _ _ c.in_err-refuse_if.ensures in
    rw (p.1, p.2, same) (deliver-short in_form_2 _ _ _ _ (accepted-book _ _ c.requires).book (omega (arith, form2-length _ _ c.requires, c.rank_count.ensures, ltb-true _ _ short)))

pub write_ranked-requires : goal.write_ranked-requires
write_ranked-requires c =
    record {
      accepted = c.requires;
      cells_in_bounds = omega (arith, form2-length _ _ c.requires, c.rank_count.ensures, (ltb-false _ _ (step-passes _ _ _ c.in_ok-refuse_if.ensures)));
    }

pub returns : goal.returns
unfolding to_form_2
returns c =
    deliver-whole in_form_2 _ _ _ _ _ _ (accepted-book _ _ c.requires).book (omega (arith, form2-length _ _ c.requires, c.rank_count.ensures)) (ltb-false _ _ (step-passes _ _ _ c.in_ok-refuse_if.ensures)) c.write_ranked.ensures
