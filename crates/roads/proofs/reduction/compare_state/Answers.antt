-- `roads::reduction::compare_state` meets its contract. Assumes nothing.
use Rattle.walk.specs.Scale.{plain}
use Rattle.layers.specs.LayerLaws.{value_read}
use Rattle.roads.specs.LowestLaws.{lowered-more, lowered-done}
use Rattle.roads.proofs.reduction.compare_state.Goals as goal

pub loop-z-preserved : goal.loop-z-preserved
loop-z-preserved c =
    lowered-more _ _ c.loop-z.invariant (rw (value_read plain _ _ _ _ c.requires.q_lt_s.3) c.compare_at-low.ensures)

pub returns : goal.returns
returns c = lowered-done _ c.loop-z.auto.z-end c.loop-z-test.false c.loop-z.invariant
