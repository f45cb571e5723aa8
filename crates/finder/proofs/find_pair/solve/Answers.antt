-- `finder::find_pair::solve` meets its contract: the plain cells have the book's tables, and the row of terminals its ranks. Assumes nothing.
use Rattle.forms.proofs.FormsLaws.{plain-holds, plain-tables}
use Rattle.layers.specs.CrossingLaws.{terminals-are}
use Rattle.finder.specs.PairLaws.{answered-rank}
use Rattle.finder.proofs.find_pair.solve.Goals as goal

pub solve_plain-requires : goal.solve_plain-requires
solve_plain-requires c =
    record {
      holds = rw (c.plain_cells-n.ensures.0, c.plain_sizes.ensures) (plain-holds _ _ c.requires.accepted);
      arranged = rw c.plain_sizes.ensures c.by_rank.ensures.arranged;
      d_in_bounds = rw c.plain_sizes.ensures c.requires.d_in_bounds;
    }

pub returns : goal.returns
returns c =
    let e = c.requires.accepted in
    let x = rw (c.plain_cells-n.ensures.0, c.plain_sizes.ensures) at c.solve_plain.ensures in
    let a = c.args in
    let counted = terminals-are (plain-holds _ _ e) in
    record {
      answered = rw (plain-tables _ _ e) at (answered-rank a.breaks _ a.s a.z (λ b some l. c.by_rank.ensures.place b some (rw counted at l)) x.answered);
      work_after = x.work_after;
    }
