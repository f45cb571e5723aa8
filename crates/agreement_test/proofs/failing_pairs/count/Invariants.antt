use Rattle.std.proofs.Common.{◌≤◌}
use Rattle.agreement_test.proofs.failing_pairs.count.Given as goal

abbrev pub invariant-loop-k : goal.invariant-loop-k
invariant-loop-k l = l.n ≤ l.k
