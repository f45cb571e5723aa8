-- The cycle of calls of `crossings::crossing::cross_layers`: each call has one layer less before it. Assumes nothing.
use native.Mathlib.Omega.{arith}
use Rattle.positions.specs.PositionLaws.{position-row}
use Rattle.crossings.specs.ReductionLaws.{sound-usable}
use Rattle.crossings.specs.CrossingsLaws.{reached-longer, tried-last, tried-later}
use Rattle.crossings.proofs.crossing.+cross_layers.Goals as goal

pub returns-then-m-len-clause-pass : goal.returns-then-m-len-clause-pass
returns-then-m-len-clause-pass t c =
    let p = c.requires in
    tried-last p.positions.0 c.reduce_layer-n.ensures c.if-m-len.true

pub lengthen_within-requires-clause-usable : goal.lengthen_within-requires-clause-usable
lengthen_within-requires-clause-usable t c =
    let p = c.requires in
    sound-usable c.reduce_layer-n.ensures.keeps.sound p.positions.1

pub cross_layers-later-requires : goal.cross_layers-later-requires
cross_layers-later-requires t c =
    let p = c.requires in
    let s = c.reduce_layer-n.ensures.keeps.sound in
    let l = c.lengthen_within.ensures in
    (omega (arith, c.decreases, c.if-m-len.false, p.q_lt_s), (s, ((p.q_lt_s.0, p.q_lt_s.1, omega (arith, c.if-m-len.false, p.q_lt_s), p.q_lt_s.3), (p.positions, (reached-longer p.sound_table.holds s p.layer_reached l.lengthened_to, (record { first = l.sized.size; second = p.scratch.0.first }, l.sized.listed))))))

pub returns-clause-pass : goal.returns-clause-pass
returns-clause-pass t c =
    tried-later c.requires.positions.0 c.reduce_layer-n.ensures (λ q h. position-row c.args.positions.now c.args.m (omega (arith, c.requires.sound_table.holds.small.states))) c.lengthen_within.ensures.lengthened_to c.most.ensures c.cross_layers-later.ensures.pass
