-- `positions::position::mark_all` meets its contract. Assumes nothing.
use Rattle.positions.specs.PositionLaws.{positions-begin}
use Rattle.positions.proofs.position.mark_all.Goals as goal

pub loop-k-init : goal.loop-k-init
loop-k-init c = positions-begin _ c.requires c.longest_of_all-k.ensures
