use Prim.Native.Nat.{ℕ, ◌≤◌, ◌<◌}
use Rattle.walk.specs.Scale.{plain, unreached}
use Rattle.layers.specs.Layer.{entry_in}
use Rattle.lengths.proofs.starts.reached.Given as goal

abbrev pub invariant-loop-a : goal.invariant-loop-a
invariant-loop-a l = (j : ℕ) → j < l.a → unreached plain ≤ entry_in l.dist l.q j
