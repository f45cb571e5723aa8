-- `positions::position::actions_pass` meets its contract. Assumes nothing.
use Rattle.positions.specs.PositionLaws.{each_more}
use Rattle.positions.proofs.position.actions_pass.Goals as goal

pub loop-z-preserved : goal.loop-z-preserved
loop-z-preserved c =
    each_more c.loop-z.invariant (c.action_passes.ensures c.if-action_passes.false)
