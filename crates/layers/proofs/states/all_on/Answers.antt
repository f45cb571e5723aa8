-- `layers::states::all_on` meets its contract. Assumes nothing.
use native.Mathlib.Omega.{arith}
use Rattle.layers.specs.StatesLaws.{listed-none, all_more}
use Rattle.layers.proofs.states.all_on.Goals as goal

pub loop-q-init : goal.loop-q-init
loop-q-init c = record { listed = listed-none; all = λ q h. omega arith }

pub loop-q-preserved : goal.loop-q-preserved
loop-q-preserved c = rw c.add_state.ensures (all_more c.loop-q.invariant (omega arith))
