use Prim.Native.Nat.{◌≤◌}
use lib.ListN.{length}
use Rattle.script.proofs.make.encode.Given as goal

abbrev pub invariant-loop-cell : goal.invariant-loop-cell
invariant-loop-cell l = l.at ≤ length l.bytes
