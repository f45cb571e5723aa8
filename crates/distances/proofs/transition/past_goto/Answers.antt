-- `distances::transition::past_goto` meets its contract. Assumes nothing.
use mathlib.Core.Path.{refl}
use Rattle.layers.specs.StepLaws.{step-more}
use Rattle.distances.specs.DistancesLaws.{distance_read}
use Rattle.distances.specs.GoalLaws.{lessened, past-goto-off}
use Rattle.walk.specs.Scale.{plain}
use Rattle.distances.proofs.transition.past_goto.Goals as goal

pub returns-then-flags-g-eq0 : goal.returns-then-flags-g-eq0
returns-then-flags-g-eq0 c =
    past-goto-off c.requires.marked c.args.g c.args.table.now c.args.start c.if-flags-g-eq0.true

pub loop-b-preserved : goal.loop-b-preserved
loop-b-preserved c =
    step-more _ _ c.loop-b.invariant (rw (distance_read plain c.args.dist.now c.args.g c.loop-b.b c.requires.g_bound.0) (lessened _ _ _ _ _ c.least-r.ensures refl c.add.ensures))
