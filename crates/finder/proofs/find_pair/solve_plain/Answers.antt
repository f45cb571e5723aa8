-- `finder::find_pair::solve_plain` meets its contract. Assumes nothing.
use Rattle.work.specs.WorkLaws.{work-cleared}
use Rattle.finder.proofs.find_pair.solve_plain.Goals as goal

pub returns : goal.returns
returns c =
    record {
      answered = c.answer-found.ensures;
      work_after = work-cleared c.args.d c.crossings.ensures.beyond c.work_cells-n.ensures c.clear.ensures;
    }
