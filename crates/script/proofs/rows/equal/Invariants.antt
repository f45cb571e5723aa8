use Prim.Native.Nat.{◌≤◌}
use Rattle.script.proofs.rows.equal.Given as goal

abbrev pub invariant-loop-j : goal.invariant-loop-j
invariant-loop-j l = l.n ≤ l.j
