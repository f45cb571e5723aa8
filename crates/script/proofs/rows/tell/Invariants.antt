use Prim.Native.Nat.{◌≤◌}
use Rattle.script.proofs.rows.tell.Given as goal

abbrev pub invariant-loop-k : goal.invariant-loop-k
invariant-loop-k l = l.different ≤ l.k
