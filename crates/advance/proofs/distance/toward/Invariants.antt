use Prim.Native.Nat.{ℕ, ◌<◌}
use Rattle.book.specs.Tables.{tables_of}
use Rattle.layers.specs.Crossing.{claim_in}
use Rattle.advance.specs.Nearest.{LeadsTo}
use Rattle.advance.proofs.distance.toward.Given as goal

abbrev pub invariant-loop-x : goal.invariant-loop-x
invariant-loop-x l = (k : ℕ) → k < l.x → ¬ LeadsTo (tables_of l.cells) (claim_in l.d l.table) l.a l.to l.q l.m k
