use Prim.Native.Nat.{◌-◌}
use Rattle.roads.specs.Pairs.{PairsIn}
use Rattle.roads.proofs.pair.as_layer.Given as goal

abbrev pub invariant-loop-k : goal.invariant-loop-k
invariant-loop-k l = PairsIn l.t l.pairs l.k l.values
