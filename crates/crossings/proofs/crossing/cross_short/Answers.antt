-- `crossings::crossing::cross_short` meets its contract. Assumes nothing.
use Rattle.crossings.specs.CrossingsLaws.{reached-begun}
use Rattle.crossings.proofs.crossing.cross_short.Goals as goal

pub cross_layers-lowered-requires-clause-layer_reached : goal.cross_layers-lowered-requires-clause-layer_reached
cross_layers-lowered-requires-clause-layer_reached c =
    let p = c.requires in
    let begun = c.begin.ensures in
    reached-begun p.sound_table.holds begun.begun

pub cross_layers-lowered-requires-clause-scratch : goal.cross_layers-lowered-requires-clause-scratch
cross_layers-lowered-requires-clause-scratch c =
    let p = c.requires in
    let l = c.loop-lowered.invariant in
    let begun = c.begin.ensures in
    (record { first = (begun.by_index _ p.q_lt_s.0).size; second = l.0.second }, (begun.by_index _ p.q_lt_s.0).listed)
