-- `approach::shortest::over_start` meets its contract. Assumes nothing.
use mathlib.Core.Path.{◌∙◌}
use Rattle.approach.specs.ShortestLaws.{over_none, over-more}
use Rattle.approach.proofs.shortest.over_start.Goals as goal

pub loop-m-init : goal.loop-m-init
loop-m-init c = over_none _ _ _

pub loop-m-preserved : goal.loop-m-preserved
loop-m-preserved c = c.least-r.ensures ∙ rw c.loop-m.invariant (over-more _ _ _ _)
