use Rattle.walk.specs.Scale.{plain}
use Rattle.layers.specs.Layer.{value_in}
use Rattle.layers.specs.States.{listed_in}
use Rattle.layers.specs.Step.{Upto}
use Rattle.distances.specs.Pass.{Merged, Offer}
use Rattle.distances.proofs.start.merge.Given as goal

abbrev pub invariant-loop-i : goal.invariant-loop-i
invariant-loop-i l = Merged plain (Upto (λ j. Upto (Offer (value_in plain l.values l.flags) (listed_in l.flags j)) l.d.t) l.i) l.n l.initial.dist l.dist
