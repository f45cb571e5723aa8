-- `distances::transition::toward` meets its contract. Assumes nothing.
use Rattle.layers.specs.StepLaws.{step-join}
use Rattle.distances.proofs.transition.toward.Goals as goal

pub returns : goal.returns
returns c = step-join c.toward_shift-v.ensures c.toward_gotos.ensures
