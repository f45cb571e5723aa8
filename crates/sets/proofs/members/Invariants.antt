use mathlib.Core.Path.{◌≡◌}
use Rattle.sets.specs.Set.{set_of}
use Rattle.sets.specs.Bits.{below}
use Rattle.sets.proofs.members.Given as goal

abbrev pub invariant-loop-z : goal.invariant-loop-z
invariant-loop-z l = l.set ≡ set_of (below l.costs l.mark) l.z
