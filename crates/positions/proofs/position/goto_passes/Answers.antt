-- `positions::position::goto_passes` meets its contract. Assumes nothing.
use native.Mathlib.Omega.{arith}
use Rattle.layers.specs.CrossingLaws.{goto-least}
use Rattle.positions.proofs.position.goto_passes.Goals as goal

pub marked-requires : goal.marked-requires
marked-requires c =
    (omega arith, omega (arith, goto-least c.requires.holds _ _ c.goto_at-target.ensures), c.requires.n_bound.3)
