-- `approach::weights::without_gotos` meets its contract. Assumes nothing.
use mathlib.Core.Path.{◌∙◌}
use Rattle.walk.specs.Scale.{plain}
use Rattle.approach.specs.WeightsLaws.{rows_none, rows_more, rows-size}
use Rattle.approach.proofs.weights.without_gotos.Goals as goal

pub loop-q-init : goal.loop-q-init
loop-q-init c = rows_none plain _ _ _

pub without_goto-requires-clause-x_lt_n : goal.without_goto-requires-clause-x_lt_n
without_goto-requires-clause-x_lt_n c =
    let p = c.requires.x_lt_n in (p.0, c.loop-q-test.true, rw c.loop-q.invariant (rows-size plain _ _ _ _ ∙ p.1))

pub loop-q-preserved : goal.loop-q-preserved
loop-q-preserved c = c.without_goto.ensures ∙ rw c.loop-q.invariant (rows_more plain _ _ _ _)
