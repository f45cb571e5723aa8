-- `lengths::ahead::by_gotos` meets its contract. Assumes nothing.
use Rattle.lengths.specs.AheadLaws.{grown-more}
use Rattle.lengths.proofs.ahead.by_gotos.Goals as goal

pub loop-x-preserved : goal.loop-x-preserved
loop-x-preserved c = grown-more _ _ c.loop-x.invariant c.by_goto-all.ensures
