-- `forms::plain::write_plain` meets its contract. Assumes nothing.
use native.Mathlib.Omega.{arith}
use Rattle.forms.proofs.WritingLaws.{bounds, form1-length, plain-written}
use Rattle.forms.proofs.plain.write_plain.Goals as goal

pub overflow_mul-front : goal.overflow_mul-front
overflow_mul-front c =
    let b = bounds _ _ c.requires.accepted in omega (arith, b.productions)

pub overflow_add-front : goal.overflow_add-front
overflow_add-front c =
    let b = bounds _ _ c.requires.accepted in omega (arith, b.productions)

pub overflow_add-start : goal.overflow_add-start
overflow_add-start c =
    let b = bounds _ _ c.requires.accepted in omega (arith, b.productions, b.ranks, b.terminals, c.rank_count.ensures)

pub write_front-requires : goal.write_front-requires
write_front-requires c =
    let b = bounds _ _ c.requires.accepted in
    record {
      accepted = c.requires.accepted;
      p_in_bounds = omega (arith, b.start, form1-length _ _ c.requires.accepted, c.requires.cells_in_bounds);
    }

pub overflow_sub-cells : goal.overflow_sub-cells
overflow_sub-cells c =
    let b = bounds _ _ c.requires.accepted in omega (arith, b.start, c.rank_count.ensures)

pub copy-requires : goal.copy-requires
copy-requires c =
    let b = bounds _ _ c.requires.accepted in
    (omega (arith, b.start, c.rank_count.ensures), omega (arith, form1-length _ _ c.requires.accepted, c.requires.cells_in_bounds, c.rank_count.ensures, b.start, c.write_front.auto.to))

pub returns : goal.returns
returns c =
    rw (c.copy.ensures, c.write_front.ensures, c.rank_count.ensures) (plain-written _ _ c.requires.accepted c.args.to.now)
