use Prim.Native.Nat.{◌≤◌}
use lib.ListN.{length}
use Rattle.script.proofs.numbers.read.Given as goal

abbrev pub invariant-loop-c : goal.invariant-loop-c
invariant-loop-c l = l.n ≤ length l.to
