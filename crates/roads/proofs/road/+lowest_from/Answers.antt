-- The cycle of calls of `roads::road::lowest_from`: each call has one layer less before it. Assumes nothing.
use native.Mathlib.Omega.{arith}
use Rattle.positions.specs.PositionLaws.{position-row}
use Rattle.roads.specs.RoadLaws.{roads-last, roads-later, least-longer}
use Rattle.roads.proofs.road.+lowest_from.Goals as goal

pub returns-then-m-len-clause-lowered : goal.returns-then-m-len-clause-lowered
returns-then-m-len-clause-lowered t c =
    let p = c.requires in
    roads-last p.marked.0 p.positions c.if-m-len.true p.layer_passed c.compare_layer-low.ensures

pub lowest_from-requires : goal.lowest_from-requires
lowest_from-requires t c =
    let p = c.requires in
    let l = c.lengthen_within.ensures in
    (omega (arith, c.decreases, c.if-m-len.false, p.q_lt_s), (p.marked, ((p.q_lt_s.0, p.q_lt_s.1, omega (arith, c.if-m-len.false, p.q_lt_s), p.q_lt_s.3), (p.positions, (least-longer p.marked.0 p.positions (λ q h. position-row c.args.positions.now c.args.m (omega (arith, p.marked.0.fitted.holds.small.states))) l.lengthened_to p.layer_passed, (record { first = l.sized.size; second = p.scratch.0.first }, l.sized.listed))))))

pub returns-clause-lowered : goal.returns-clause-lowered
returns-clause-lowered t c =
    let p = c.requires in
    roads-later p.marked.0 p.positions p.q_lt_s.2 p.layer_passed c.compare_layer-low.ensures c.lowest_from.ensures.lowered
