-- `layers::row::relax_by` meets its contract. Assumes nothing.
use native.Mathlib.Omega.{arith}
use mathlib.Core.Path.{◌∙◌}
use Rattle.walk.specs.Scale.{plain}
use Rattle.layers.specs.StepLaws.{step-more, step-relaxed, relaxed-size}
use Rattle.layers.proofs.row.relax_by.Goals as goal

pub loop-k-preserved : goal.loop-k-preserved
loop-k-preserved c =
    (rw c.relax.ensures (relaxed-size plain _ _ _ _ _ _ ∙ c.loop-k.invariant.0), step-more _ _ c.loop-k.invariant.1 (rw (c.relax.ensures, c.layer_row-row.ensures) (step-relaxed plain _ _ _ _ _ _ c.requires.g_bound.1 (omega (arith, c.loop-k.invariant.0, c.requires.g_bound)))))
