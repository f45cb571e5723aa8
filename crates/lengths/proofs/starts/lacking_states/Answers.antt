-- `lengths::starts::lacking_states` meets its contract. Assumes nothing.
use Rattle.lengths.specs.LackingLaws.{lacking-none}
use Rattle.lengths.proofs.starts.lacking_states.Goals as goal

pub loop-q-init : goal.loop-q-init
loop-q-init c = lacking-none
