-- `positions::position::action_passes` meets its contract. Assumes nothing.
use native.Mathlib.Omega.{arith}
use Rattle.layers.specs.ActionLaws.{shift-below, reduce-below}
use Rattle.positions.proofs.position.action_passes.Goals as goal

pub marked-requires : goal.marked-requires
marked-requires c =
    (omega arith, (shift-below _ _ c.requires.holds c.action_at.ensures c.in-Shift.is).1, c.requires.n_bound.3)

pub production_length-len-requires : goal.production_length-len-requires
production_length-len-requires c =
    record {
      holds = c.requires.holds;
      p_lt_p = reduce-below _ _ c.requires.holds c.action_at.ensures c.in-Reduce.is;
    }
