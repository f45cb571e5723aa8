-- `crossings::reduction::reduce_state` meets its contract. Assumes nothing.
use Rattle.walk.specs.Scale.{plain}
use Rattle.layers.specs.LayerLaws.{value_read}
use Rattle.layers.specs.CrossingLaws.{terminals-are}
use Rattle.crossings.specs.FallingLaws.{pass-more}
use Rattle.crossings.specs.PassLaws.{kept-join}
use Rattle.crossings.proofs.reduction.reduce_state.Goals as goal

pub reduce_at-requires-clause-attained : goal.reduce_at-requires-clause-attained
reduce_at-requires-clause-attained c =
    let p = c.requires in
    rw (value_read plain _ _ _ _ p.q_lt_s.3) at (p.layer_reached.walks c.args.last c.loop-z.z (rw (terminals-are p.sound_table.holds) c.loop-z-test.true))

pub loop-z-preserved : goal.loop-z-preserved
loop-z-preserved c =
    pass-more _ _ kept-join c.most-n.ensures c.loop-z.invariant (rw (value_read plain _ _ _ _ c.requires.q_lt_s.3) c.reduce_at.ensures)
