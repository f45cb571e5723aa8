use Prim.Native.Nat.{◌-◌}
use Rattle.book.specs.Tables.{tables_of}
use Rattle.crossings.specs.Pass.{LongestFrom}
use Rattle.crossings.proofs.production.longest.Given as goal

abbrev pub invariant-loop-p : goal.invariant-loop-p
invariant-loop-p l = LongestFrom (tables_of l.cells) l.q l.p l.r
