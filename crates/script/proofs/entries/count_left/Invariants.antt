use Prim.Native.Nat.{◌≤◌}
use Rattle.script.proofs.entries.count_left.Given as goal

abbrev pub invariant-loop : goal.invariant-loop
invariant-loop l = l.count ≤ l.counter
