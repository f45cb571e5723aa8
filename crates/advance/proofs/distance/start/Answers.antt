-- `advance::distance::start` meets its contract. Assumes nothing.
use Rattle.advance.specs.RoundLaws.{started_none}
use Rattle.advance.proofs.distance.start.Goals as goal

pub loop-q-init : goal.loop-q-init
loop-q-init c = started_none
