-- `layers::row::level` meets its contract. Assumes nothing.
use native.Mathlib.Omega.{arith}
use mathlib.Core.Path.{refl}
use lib.ListN.{length-set}
use Rattle.layers.specs.StepLaws.{step-more, step-least}
use Rattle.layers.proofs.row.level.Goals as goal

pub loop-z-preserved : goal.loop-z-preserved
loop-z-preserved c =
    (simp length-set c.loop-z.invariant.0, step-more _ _ c.loop-z.invariant.1 (step-least _ _ _ _ _ _ _ (omega arith) (omega (arith, c.loop-z.invariant.0)) c.least.ensures refl refl))
