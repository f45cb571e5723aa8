-- `positions::position::gotos_pass` meets its contract. Assumes nothing.
use Rattle.positions.specs.PositionLaws.{each_more}
use Rattle.positions.proofs.position.gotos_pass.Goals as goal

pub loop-x-preserved : goal.loop-x-preserved
loop-x-preserved c =
    each_more c.loop-x.invariant (c.goto_passes.ensures c.if-goto_passes.false)
