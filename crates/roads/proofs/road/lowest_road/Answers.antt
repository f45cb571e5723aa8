-- `roads::road::lowest_road` meets its contract. Assumes nothing.
use Rattle.roads.specs.LowestLaws.{lowered-more, lowered-done}
use Rattle.roads.specs.RoadLaws.{roads-whole}
use Rattle.roads.proofs.road.lowest_road.Goals as goal

pub loop-q-preserved : goal.loop-q-preserved
loop-q-preserved c =
    (lowered-more _ _ c.loop-q.invariant.0 c.lowest_of_state-low.ensures.lowered, c.lowest_of_state-low.ensures.scratch_2)

pub returns : goal.returns
returns c =
    roads-whole c.requires.0 c.longest_of_all-len.ensures (lowered-done _ c.loop-q.auto.q-end c.loop-q-test.false c.loop-q.invariant.0)
