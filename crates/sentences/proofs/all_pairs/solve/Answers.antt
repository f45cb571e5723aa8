-- `sentences::all_pairs::solve` meets its contract: the plain cells have the book's tables, and the row of terminals its ranks. Assumes nothing.
use Rattle.book.specs.Tables.{rank_of}
use Rattle.forms.proofs.FormsLaws.{plain-holds, plain-tables}
use Rattle.layers.specs.CrossingLaws.{terminals-are}
use Rattle.sentences.proofs.PartsLaws.{all-rank}
use Rattle.sentences.proofs.all_pairs.solve.Goals as goal

pub solve_plain-requires : goal.solve_plain-requires
solve_plain-requires c =
    record {
      holds = rw (c.plain_cells-n.ensures.0, c.plain_sizes.ensures) (plain-holds _ _ c.requires.accepted);
      arranged = rw c.plain_sizes.ensures c.by_rank.ensures.arranged;
      d_in_bounds = rw c.plain_sizes.ensures c.requires.d_in_bounds;
    }

pub returns : goal.returns
returns c =
    let e = c.requires.accepted in
    let x = rw (c.plain_cells-n.ensures.0, c.plain_sizes.ensures) at c.solve_plain.ensures in
    let counted = terminals-are (plain-holds _ _ e) in
    record {
      all_put = rw (plain-tables _ _ e) at (all-rank _ _ {rank' = rank_of c.args.cells.now} (λ b some l. c.by_rank.ensures.place b some (rw counted at l)) x.all_put);
      work_after = x.work_after;
    }
