-- `positions::position::passes` meets its contract. Assumes nothing.
use Rattle.positions.specs.PositionLaws.{barred-all}
use Rattle.positions.proofs.position.passes.Goals as goal

pub returns-else-actions_pass : goal.returns-else-actions_pass
returns-else-actions_pass c =
    λ e. barred-all c.requires.holds (c.actions_pass.ensures c.if-actions_pass.false) (c.gotos_pass.ensures e)
