use Rattle.std.proofs.Common.{◌≤◌}
use Rattle.agreement_test.proofs.judged.count.Given as goal

abbrev pub invariant-loop-q : goal.invariant-loop-q
invariant-loop-q l = l.n ≤ l.q
