-- `judgement::coverage::cover` meets its contract: the costs decide which states fail. Assumes nothing.
use Rattle.judgement.proofs.CoverageLaws.{start-covered}
use Rattle.judgement.proofs.coverage.cover.Goals as goal

pub returns : goal.returns
returns c =
    let table = c.failures.ensures in
    record {
      covered = start-covered c.requires.holds table.start_table table.break_table c.lowest_lacking.ensures;
      beyond = c.crossings_with.ensures.beyond;
    }
