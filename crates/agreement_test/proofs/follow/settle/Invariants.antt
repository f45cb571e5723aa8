use Rattle.std.proofs.Common.{◌<◌, ◌≤◌}
use Rattle.agreement_test.proofs.follow.settle.Given as goal

abbrev pub invariant-loop-steps : goal.invariant-loop-steps
invariant-loop-steps l = (1 ≤ l.depth) × (l.depth < 4096)
