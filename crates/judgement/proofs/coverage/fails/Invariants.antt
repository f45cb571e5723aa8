use mathlib.Core.Path.{◌≡◌}
use Prim.Native.Nat.{◌-◌}
use Rattle.failing.specs.Tests.{fails_in}
use Rattle.judgement.specs.Coverage.{some, state_fails}
use Rattle.judgement.proofs.coverage.fails.Given as goal

abbrev pub invariant-loop-z : goal.invariant-loop-z
invariant-loop-z l = state_fails l.cells l.dist l.broken l.d.t l.q ≡ some (fails_in l.cells l.dist l.broken l.q) (l.d.t - l.z) l.z
