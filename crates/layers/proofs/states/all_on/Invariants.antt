use Rattle.layers.specs.States.{AllOn}
use Rattle.layers.proofs.states.all_on.Given as goal

abbrev pub invariant-loop-q : goal.invariant-loop-q
invariant-loop-q l = AllOn l.q l.flags
