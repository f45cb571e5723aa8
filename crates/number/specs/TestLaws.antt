-- The value of a test from a hypothesis about its numbers: `simp tests` takes every test whose numbers are compared in reach. Assumes nothing.
use Rattle.std.specs.Prelude.{true, false, ◌≡◌, ℕ, ◌≤◌, ◌<◌, ltb, leb}
use Rattle.std.proofs.Common.{arith, lt-ltb, le-ltb, le-leb, eq-eqb, ne_eqb}
use Rattle.std.proofs.lemmas.Bool.{lt-leb}

pub not-lt-ltb : (a b : ℕ) → ¬ (a < b) → ltb a b ≡ false
not-lt-ltb a b h = le-ltb a b (omega arith)

pub not-lt-leb : (a b : ℕ) → ¬ (b < a) → leb a b ≡ true
not-lt-leb a b h = le-leb a b (omega arith)

pub not-le-leb : (a b : ℕ) → ¬ (a ≤ b) → leb a b ≡ false
not-le-leb a b h = lt-leb a b (omega arith)

pub ruleset tests = (lt-ltb, le-ltb, not-lt-ltb, le-leb, lt-leb, not-lt-leb, not-le-leb, eq-eqb, ne_eqb)
