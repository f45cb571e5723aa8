use Prim.Native.Nat.{ℕ, ◌<◌}
use Rattle.book.specs.Tables.{tables_of}
use Rattle.positions.specs.Position.{BarredAction}
use Rattle.positions.proofs.position.actions_pass.Given as goal

abbrev pub invariant-loop-z : goal.invariant-loop-z
invariant-loop-z l = (j : ℕ) → j < l.z → BarredAction l.whole (tables_of l.cells) l.positions l.n l.q j
