use Prim.Native.Nat.{ℕ, ◌-◌, ◌≤◌}
use Rattle.walk.specs.Scale.{plain}
use Rattle.layers.specs.Layer.{value_in}
use Rattle.roads.specs.Pairs.{OverLayer}
use Rattle.roads.proofs.pair.first_over.Given as goal

abbrev pub invariant-loop-k : goal.invariant-loop-k
invariant-loop-k l = ((j : ℕ) → OverLayer l.t l.pairs (value_in plain l.values l.flags) j → l.k ≤ j)
