use Rattle.std.proofs.Common.{◌≤◌}
use Rattle.agreement_test.proofs.sentences.try_all.Given as goal

abbrev pub invariant-loop : goal.invariant-loop
invariant-loop l = l.n ≤ 1001
