-- `choice::still::still` meets its contract: one state after the other. Assumes nothing.
use native.Mathlib.Omega.{arith}
use Rattle.choice.specs.StillLaws.{column-more}
use Rattle.choice.proofs.still.still.Goals as goal

pub loop-q-preserved : goal.loop-q-preserved
loop-q-preserved c =
    column-more c.loop-q.invariant c.requires.1 (omega (arith, c.requires)) c.cost.ensures
