use Prim.Native.Nat.{ℕ, ◌<◌}
use Rattle.book.specs.Tables.{tables_of}
use Rattle.positions.specs.Position.{BarredGoto}
use Rattle.positions.proofs.position.gotos_pass.Given as goal

abbrev pub invariant-loop-x : goal.invariant-loop-x
invariant-loop-x l = (j : ℕ) → j < l.x → BarredGoto (tables_of l.cells) l.positions l.n l.q j
