use Rattle.std.proofs.Common.{◌+◌, ◌≤◌}
use Rattle.agreement_test.proofs.tables.lay_out.Given as goal

abbrev pub invariant-loop-k : goal.invariant-loop-k
invariant-loop-k l = l.at ≤ l.from + l.k
