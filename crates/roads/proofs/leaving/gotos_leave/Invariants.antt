use Prim.Native.Nat.{ℕ, ◌-◌, ◌<◌}
use Rattle.book.specs.Tables.{tables_of}
use Rattle.layers.specs.Crossing.{claim_in}
use Rattle.roads.specs.Roads.{Unclaimed}
use Rattle.roads.proofs.leaving.gotos_leave.Given as goal

abbrev pub invariant-loop-x : goal.invariant-loop-x
invariant-loop-x l = ((X : ℕ) → X < l.x → Unclaimed l.d (tables_of l.cells) (claim_in l.d l.table) l.q l.a X)
