-- `layers::row::relax` meets its contract. Assumes nothing.
use Rattle.walk.specs.Scale.{plain}
use Rattle.layers.specs.StepLaws.{relaxed-none, relaxed-more}
use Rattle.layers.proofs.row.relax.Goals as goal

pub loop-z-init : goal.loop-z-init
loop-z-init c = relaxed-none plain _ _ _ _ _

pub loop-z-preserved : goal.loop-z-preserved
loop-z-preserved c =
    rw (c.least.ensures, c.add.ensures, c.loop-z.invariant) (relaxed-more plain _ _ _ _ _ _)
