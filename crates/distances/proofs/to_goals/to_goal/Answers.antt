-- `distances::to_goals::to_goal` meets its contract. Assumes nothing.
use native.Mathlib.Omega.{arith}
use Rattle.walk.specs.Scale.{plain}
use Rattle.layers.specs.CrossingLaws.{terminals-are}
use Rattle.distances.specs.PassLaws.{drawn-same, drawn-join}
use Rattle.distances.specs.TableLaws.{table-usable}
use Rattle.distances.specs.GoalLaws.{nearest-back, goal-table}
use Rattle.distances.proofs.to_goals.to_goal.Goals as goal

pub loop-n-init : goal.loop-n-init
loop-n-init c =
    let p = c.requires in (drawn-same (rw (terminals-are p.holds) p.bounded), c.mark.ensures, λ e. absurd (omega (arith, e)))

pub pass-n-requires-clause-usable : goal.pass-n-requires-clause-usable
pass-n-requires-clause-usable c =
    let p = c.requires in table-usable p.holds p.crossing_table p.open_rows

pub loop-n-preserved : goal.loop-n-preserved
loop-n-preserved c =
    (drawn-join c.loop-n.invariant.0 c.pass-n.ensures.pass.keeps, c.pass-n.ensures.marked_2, λ e. nearest-back plain _ _ _ _ _ (c.pass-n.ensures.pass.done e))

pub returns : goal.returns
returns c =
    let p = c.requires in goal-table p.holds c.loop-n.invariant.0 (c.loop-n.invariant.2 c.loop-n-test.false)
