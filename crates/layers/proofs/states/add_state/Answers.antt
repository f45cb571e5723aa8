-- `layers::states::add_state` meets its contract: fewer are on than there are states. Assumes nothing.
use native.Mathlib.Omega.{arith}
use Rattle.layers.specs.StatesLaws.{room-left}
use Rattle.layers.proofs.states.add_state.Goals as goal

pub overflow_cast-flags-2 : goal.overflow_cast-flags-2
overflow_cast-flags-2 c = omega (arith, room-left c.requires.listed c.requires.g_bound.0 c.requires.g_bound.1)
