-- `distances::single_goal::only` meets its contract. Assumes nothing.
use Rattle.walk.specs.Scale.{plain}
use Rattle.distances.specs.SingleLaws.{single}
use Rattle.distances.proofs.single_goal.only.Goals as goal

pub returns : goal.returns
returns c = single plain _ _ c.requires.0 c.requires.1
