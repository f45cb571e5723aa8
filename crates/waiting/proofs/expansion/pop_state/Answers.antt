-- `waiting::expansion::pop_state` meets its contract. Assumes nothing.
use Rattle.walk.specs.Scale.{plain}
use Rattle.layers.specs.LayerLaws.{value_read}
use Rattle.layers.specs.StepLaws.{step-more}
use Rattle.waiting.proofs.expansion.pop_state.Goals as goal

pub loop-c-preserved : goal.loop-c-preserved
loop-c-preserved c =
    (c.pop_at.ensures.events_len_2, step-more _ _ c.loop-c.invariant.1 (rw (value_read plain _ _ _ _ c.requires.q_lt_s.3, ← c.add-w.ensures) c.pop_at.ensures.table_step))
