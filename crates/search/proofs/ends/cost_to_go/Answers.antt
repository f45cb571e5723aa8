-- `search::ends::cost_to_go` meets its contract: one layer after the other. Assumes nothing.
use mathlib.Core.Path.{refl}
use Rattle.walk.specs.Ends.{to_go}
use Rattle.layers.specs.Layer.{entry_in}
use Rattle.search.specs.EndsLaws.{to-go-more}
use Rattle.search.proofs.ends.cost_to_go.Goals as goal

pub loop-m-init : goal.loop-m-init
unfolding to_go entry_in
loop-m-init c = refl

pub loop-m-preserved : goal.loop-m-preserved
loop-m-preserved c = to-go-more _ _ _ _ _ _ _ _ _ c.loop-m.invariant c.lesser_end-cost.ensures
