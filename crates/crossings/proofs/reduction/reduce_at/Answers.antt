-- `crossings::reduction::reduce_at` meets its contract. Assumes nothing.
use Rattle.layers.specs.ActionLaws.{reduce-below}
use Rattle.crossings.specs.PassLaws.{table-pass-idle}
use Rattle.crossings.specs.ReductionLaws.{settled-far}
use Rattle.crossings.proofs.reduction.reduce_at.Goals as goal

pub returns-then-v-ge-UNREACHED : goal.returns-then-v-ge-UNREACHED
returns-then-v-ge-UNREACHED c =
    let p = c.requires in table-pass-idle p.sound_table (settled-far p.sound_table p.q_lt_s.1 p.q_lt_s.3 c.if-v-ge-UNREACHED.true)

pub cross-requires-clause-q_lt_s : goal.cross-requires-clause-q_lt_s
cross-requires-clause-q_lt_s c =
    let p = c.requires in
    (p.q_lt_s.0, p.q_lt_s.1, p.q_lt_s.3, reduce-below _ _ p.sound_table.holds c.action_at.ensures c.in-Reduce.is)
