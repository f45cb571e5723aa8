-- `sentences::all_pairs::solve_plain` meets its contract: one table serves all pairs, and is cleared. Assumes nothing.
use Rattle.sentences.proofs.PartsLaws.{pairs-all}
use Rattle.work.specs.WorkLaws.{work-cleared}
use native.Mathlib.Nat.{le_trans}
use Rattle.sentences.proofs.all_pairs.solve_plain.Goals as goal

pub returns : goal.returns
returns c =
    let p = c.requires in
    let put = c.put_pairs-count.ensures in
    record {
      all_put = pairs-all _ _ put.pairs_put p.d_in_bounds.1 (le_trans put.upper_bound p.d_in_bounds.2);
      work_after = work-cleared c.args.d c.costs_in.ensures.beyond c.work_cells-n.ensures c.clear.ensures;
    }
