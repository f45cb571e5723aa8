-- `distances::to_goals::approach_state` meets its contract. Assumes nothing.
use native.Mathlib.Omega.{arith}
use Rattle.crossings.specs.FallingLaws.{pass-more, pass-done}
use Rattle.distances.specs.PassLaws.{distance-pass-idle, drawn-join}
use Rattle.distances.proofs.to_goals.approach_state.Goals as goal

pub loop-a-init : goal.loop-a-init
loop-a-init c = (distance-pass-idle c.requires.bounded (λ j h. absurd (omega arith)), c.requires.marked)

pub loop-a-preserved : goal.loop-a-preserved
loop-a-preserved c =
    (pass-more _ _ drawn-join c.most-n.ensures c.loop-a.invariant.0 c.approach.ensures.pass, c.approach.ensures.marked_2)

pub returns-clause-pass : goal.returns-clause-pass
returns-clause-pass c = pass-done _ c.loop-a.auto.a-end c.loop-a-test.false c.loop-a.invariant.0
