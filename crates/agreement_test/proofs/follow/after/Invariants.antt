use Rattle.std.proofs.Common.{◌<◌, ◌≤◌}
use Rattle.agreement_test.proofs.follow.after.Given as goal

abbrev pub invariant-loop-a : goal.invariant-loop-a
invariant-loop-a l = (1 ≤ l.depth) × (l.depth < 4096)
