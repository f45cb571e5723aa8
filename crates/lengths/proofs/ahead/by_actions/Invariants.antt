use Prim.Native.Nat.{ℕ, ◌<◌}
use Rattle.book.specs.Tables.{tables_of}
use Rattle.lengths.specs.Ahead.{Grown, NoneByAction}
use Rattle.lengths.proofs.ahead.by_actions.Given as goal

abbrev pub invariant-loop-z : goal.invariant-loop-z
invariant-loop-z l = Grown (λ X. (j : ℕ) → j < l.z → NoneByAction (tables_of l.cells) l.m l.after l.q j X) 0 l.mask
