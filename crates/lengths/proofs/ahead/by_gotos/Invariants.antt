use Prim.Native.Nat.{ℕ, ◌<◌}
use Rattle.book.specs.Tables.{tables_of}
use Rattle.lengths.specs.Ahead.{Grown, NoneByGoto}
use Rattle.lengths.proofs.ahead.by_gotos.Given as goal

abbrev pub invariant-loop-x : goal.invariant-loop-x
invariant-loop-x l = Grown (λ X. (j : ℕ) → j < l.x → NoneByGoto (tables_of l.cells) l.after l.q j X) l.mask l.all
