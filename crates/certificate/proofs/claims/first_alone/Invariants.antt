use Prim.Native.Nat.{ℕ, ◌≤◌}
use Rattle.certificate.specs.Faults.{InRow}
use Rattle.certificate.proofs.claims.first_alone.Given as goal

abbrev pub invariant-loop-k : goal.invariant-loop-k
invariant-loop-k l = (j : ℕ) → InRow l.condition l.row j → l.k ≤ j
