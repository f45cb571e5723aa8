use Rattle.std.proofs.Common.{◌≤◌}
use Rattle.agreement_test.proofs.answers.each_pair.Given as goal

abbrev pub invariant-loop-k : goal.invariant-loop-k
invariant-loop-k l = l.next ≤ l.k
