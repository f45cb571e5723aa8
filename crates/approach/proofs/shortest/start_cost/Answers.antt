-- `approach::shortest::start_cost` meets its contract. Assumes nothing.
use Rattle.approach.specs.ShortestLaws.{lowest-more}
use Rattle.approach.proofs.shortest.start_cost.Goals as goal

pub loop-a-preserved : goal.loop-a-preserved
loop-a-preserved c = lowest-more c.loop-a.invariant c.over_start.ensures c.least-r.ensures
