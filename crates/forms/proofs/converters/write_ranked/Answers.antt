-- `forms::converters::write_ranked` meets its contract. Assumes nothing.
use native.Mathlib.Omega.{arith}
use Rattle.forms.proofs.WritingLaws.{bounds, form2-length, ranked-written}
use Rattle.forms.proofs.converters.write_ranked.Goals as goal

pub overflow_mul-front : goal.overflow_mul-front
overflow_mul-front c =
    let b = bounds _ _ c.requires.accepted in omega (arith, b.productions)

pub overflow_add-front : goal.overflow_add-front
overflow_add-front c =
    let b = bounds _ _ c.requires.accepted in omega (arith, b.productions)

pub overflow_add-start : goal.overflow_add-start
overflow_add-start c =
    let b = bounds _ _ c.requires.accepted in omega (arith, b.productions, b.ranks, b.terminals, c.rank_count.ensures)

pub write_front-requires : goal.write_front-requires
write_front-requires c =
    let b = bounds _ _ c.requires.accepted in
    record {
      accepted = c.requires.accepted;
      p_in_bounds = omega (arith, b.start, form2-length _ _ c.requires.accepted, c.requires.cells_in_bounds);
    }

pub put_ranks-requires : goal.put_ranks-requires
put_ranks-requires c =
    let b = bounds _ _ c.requires.accepted in
    record {
      accepted = c.requires.accepted;
      t_in_bounds = omega (arith, form2-length _ _ c.requires.accepted, c.requires.cells_in_bounds, b.start, c.write_front.auto.to);
    }

pub overflow_sub-cells : goal.overflow_sub-cells
overflow_sub-cells c =
    let b = bounds _ _ c.requires.accepted in omega (arith, b.start, c.rank_count.ensures)

pub overflow_add-front-2 : goal.overflow_add-front-2
overflow_add-front-2 c =
    let b = bounds _ _ c.requires.accepted in omega (arith, b.productions, b.terminals)

pub copy-requires : goal.copy-requires
copy-requires c =
    let b = bounds _ _ c.requires.accepted in
    (omega (arith, b.start, c.rank_count.ensures), omega (arith, form2-length _ _ c.requires.accepted, c.requires.cells_in_bounds, c.rank_count.ensures, b.start, c.write_front.auto.to, c.put_ranks.auto.to))

pub returns : goal.returns
returns c =
    rw (c.copy.ensures, c.put_ranks.ensures, c.write_front.ensures, c.rank_count.ensures) (ranked-written _ _ c.requires.accepted c.args.to.now)
