-- `distances::transition::toward_gotos` meets its contract. Assumes nothing.
use Rattle.layers.specs.StepLaws.{step-more, step-done}
use Rattle.distances.proofs.transition.toward_gotos.Goals as goal

pub loop-x-preserved : goal.loop-x-preserved
loop-x-preserved c = step-more _ _ c.loop-x.invariant c.toward_goto-r.ensures

pub returns : goal.returns
returns c = step-done c.loop-x.auto.x-end c.loop-x-test.false c.loop-x.invariant
