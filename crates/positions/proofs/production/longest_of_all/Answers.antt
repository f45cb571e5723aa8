-- `positions::production::longest_of_all` meets its contract. Assumes nothing.
use Rattle.layers.specs.CrossingLaws.{length-below}
use Rattle.positions.specs.PositionLaws.{longest-of-more}
use Rattle.positions.proofs.production.longest_of_all.Goals as goal

pub loop-p-preserved : goal.loop-p-preserved
loop-p-preserved c =
    longest-of-more c.loop-p.invariant c.production_length.ensures (length-below c.requires c.production_length.ensures c.loop-p-test.true) c.most-r.ensures
