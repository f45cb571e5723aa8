-- `forms::plain::plain_cells` meets its contract. Assumes nothing.
use native.Mathlib.Omega.{arith}
use lib.Seq.{take-append_seam}
use Rattle.forms.proofs.WritingLaws.{bounds, form1-length}
use Rattle.forms.proofs.plain.plain_cells.Goals as goal

pub write_plain-requires : goal.write_plain-requires
write_plain-requires c =
    let b = bounds _ _ c.requires.accepted in
    record {
      accepted = c.requires.accepted;
      cells_in_bounds = omega (arith, b.most, form1-length _ _ c.requires.accepted, c.requires.in_bounds);
    }

pub overflow_sub-result : goal.overflow_sub-result
overflow_sub-result c =
    let b = bounds _ _ c.requires.accepted in omega (arith, b.start, c.rank_count.ensures)

pub returns : goal.returns
returns c =
    let b = bounds _ _ c.requires.accepted in
    let long = form1-length _ _ c.requires.accepted in
    (rw (c.write_plain.ensures, c.rank_count.ensures, ← long) (take-append_seam _ _), omega (arith, b.most, c.rank_count.ensures))
