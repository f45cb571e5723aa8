-- `crossings::crossing::cross_whole` meets its contract. Assumes nothing.
use Rattle.crossings.specs.PassLaws.{table-pass-idle}
use Rattle.crossings.specs.CrossingsLaws.{closed-unopened, reached-begun, closed_at}
use Rattle.crossings.proofs.crossing.cross_whole.Goals as goal

pub returns-then-rows-q-eq0-clause-pass : goal.returns-then-rows-q-eq0-clause-pass
returns-then-rows-q-eq0-clause-pass c =
    let p = c.requires in
    table-pass-idle p.sound_table (closed-unopened p.sound_table (p.positions.1.unopened p.q_lt_s.0 p.q_lt_s.1 c.if-rows-q-eq0.true))

pub cross_layers-requires-clause-layer_reached : goal.cross_layers-requires-clause-layer_reached
cross_layers-requires-clause-layer_reached c =
    let p = c.requires in
    reached-begun p.sound_table.holds c.begin.ensures.begun

pub cross_layers-requires-clause-scratch : goal.cross_layers-requires-clause-scratch
cross_layers-requires-clause-scratch c =
    let p = c.requires in
    (record { first = (c.begin.ensures.by_index _ p.q_lt_s.0).size; second = p.scratch.second }, (c.begin.ensures.by_index _ p.q_lt_s.0).listed)

pub returns-clause-pass : goal.returns-clause-pass
returns-clause-pass c =
    let p = c.requires in
    closed_at p.sound_table.holds p.q_lt_s.1 c.begin.ensures.begun p.longest_from c.cross_layers.ensures.pass
