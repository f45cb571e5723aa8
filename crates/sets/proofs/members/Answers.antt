-- `sets::members` meets its contract: one terminal after the other. Assumes nothing.
use mathlib.Core.Path.{refl, ◌∙◌}
use Rattle.sets.specs.Set.{set_of}
use Rattle.sets.specs.Bits.{below}
use Rattle.sets.specs.SetLaws.{set_more}
use Rattle.sets.proofs.members.Goals as goal

pub loop-z-init : goal.loop-z-init
unfolding set_of
loop-z-init c = refl

pub loop-z-preserved : goal.loop-z-preserved
loop-z-preserved c =
    c.insert_if-set.ensures ∙ rw c.loop-z.invariant (set_more (below c.args.costs.now c.args.mark) c.loop-z.z)
