-- `roads::road::lowest_of_state` meets its contract. Assumes nothing.
use native.Mathlib.Omega.{arith}
use Rattle.roads.specs.LowestLaws.{lowered-more, lowered-done}
use Rattle.roads.specs.RoadLaws.{least-begun}
use Rattle.roads.proofs.road.lowest_of_state.Goals as goal

pub lowest_from-low-requires-clause-layer_passed : goal.lowest_from-low-requires-clause-layer_passed
lowest_from-low-requires-clause-layer_passed c =
    let p = c.requires in
    let b = c.begin.ensures in
    least-begun p.marked.0 p.positions c.loop-a-test.true b.begun

pub lowest_from-low-requires-clause-scratch : goal.lowest_from-low-requires-clause-scratch
lowest_from-low-requires-clause-scratch c =
    let p = c.requires in
    let b = c.begin.ensures in
    let z = b.by_index _ p.q_lt_s.0 in
    (record { first = z.size; second = c.loop-a.invariant.1.second }, z.listed)

pub loop-a-preserved : goal.loop-a-preserved
loop-a-preserved c =
    (lowered-more _ _ c.loop-a.invariant.0 c.lowest_from-low.ensures.lowered, c.lowest_from-low.ensures.scratch_2)

pub returns-clause-lowered : goal.returns-clause-lowered
returns-clause-lowered c =
    lowered-done _ (omega (arith, c.loop-a.auto.a-end, c.requires.marked.0.fitted.holds.small.some-terminal)) c.loop-a-test.false c.loop-a.invariant.0
