-- `lengths::layer::lower_state` meets its contract. Assumes nothing.
use mathlib.Core.Path.{sym}
use Rattle.walk.specs.Scale.{plain}
use Rattle.layers.specs.LayerLaws.{value_read}
use Rattle.layers.specs.StepLaws.{step-more}
use Rattle.lengths.specs.LengthsLaws.{turn-read}
use Rattle.lengths.proofs.layer.lower_state.Goals as goal

pub loop-z-preserved : goal.loop-z-preserved
loop-z-preserved c =
    let e = c.lower_pair.ensures in
    (e.to_len, step-more _ _ c.loop-z.invariant.1 (turn-read (sym (value_read plain _ _ _ _ c.requires.m_bound.3)) e.table_step))
