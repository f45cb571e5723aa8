use Rattle.walk.specs.Scale.{plain}
use Rattle.layers.specs.Layer.{value_in}
use Rattle.layers.specs.Step.{Upto}
use Rattle.distances.specs.Pass.{Merged, Offer}
use Rattle.distances.proofs.start.merge_state.Given as goal

abbrev pub invariant-loop-z : goal.invariant-loop-z
invariant-loop-z l = Merged plain (Upto (Offer (value_in plain l.values l.flags) l.q) l.z) l.n l.initial.dist l.dist
