use Rattle.maps.specs.Reached.{mask_in, size_in}
use Rattle.maps.specs.ReachedLaws.{SetsStored}
use Rattle.maps.proofs.reached_sets.write_sets.Given as goal

abbrev pub invariant-loop-q : goal.invariant-loop-q
invariant-loop-q l = SetsStored (mask_in l.dist l.t) l.initial.masks l.masks l.q × SetsStored (size_in l.dist l.t) l.initial.sizes l.sizes l.q
