use Prim.Native.Nat.{◌-◌}
use Rattle.choice.specs.Still.{Column}
use Rattle.choice.proofs.still.still.Given as goal

abbrev pub invariant-loop-q : goal.invariant-loop-q
invariant-loop-q l = Column l.distances l.a l.to l.q
