-- `roads::reduction::compare_layer` meets its contract. Assumes nothing.
use native.Mathlib.Omega.{arith}
use Rattle.roads.specs.LowestLaws.{lowered-more, lowered-done}
use Rattle.roads.specs.RoadLaws.{layer-listed}
use Rattle.roads.proofs.reduction.compare_layer.Goals as goal

pub loop-i-preserved : goal.loop-i-preserved
loop-i-preserved c =
    lowered-more _ _ c.loop-i.invariant (rw c.state_on-last.ensures at c.compare_state-low.ensures)

pub returns : goal.returns
returns c =
    let p = c.requires in layer-listed p.marked _ _ p.q_lt_s.2 (lowered-done _ (omega (arith, c.loop-i.auto.i-end, c.count_on-i-end.ensures)) (omega (arith, c.loop-i-test.false, c.count_on-i-end.ensures)) c.loop-i.invariant)
