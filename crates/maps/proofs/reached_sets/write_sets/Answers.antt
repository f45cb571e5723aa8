-- `maps::reached_sets::write_sets` meets its contract: one state after the other. Assumes nothing.
use native.Mathlib.Omega.{arith}
use mathlib.Core.Path.{◌∙◌, ap}
use lib.Count.{ones}
use Rattle.sets.specs.SetLaws.{set-count}
use Rattle.maps.specs.ReachedLaws.{stored-none, stored_more}
use Rattle.maps.proofs.reached_sets.write_sets.Goals as goal

pub loop-q-init : goal.loop-q-init
loop-q-init c = (stored-none, stored-none)

pub loop-q-preserved : goal.loop-q-preserved
loop-q-preserved c =
    (stored_more c.loop-q.invariant.0 (omega (arith, c.requires)) c.mask_of-mask.ensures, stored_more c.loop-q.invariant.1 (omega (arith, c.requires)) (c.size.ensures ∙ ap ones c.mask_of-mask.ensures ∙ set-count _ _))
