use mathlib.Core.Path.{◌≡◌}
use Prim.Native.Nat.{◌-◌}
use lib.ListN.{length}
use Rattle.book.specs.Tables.{tables_of}
use Rattle.within.proofs.ReachingLaws.{Coming}
use Rattle.within.proofs.reaching.comes.Given as goal

abbrev pub invariant-loop : goal.invariant-loop
invariant-loop l = (length l.stack ≡ length l.initial.stack) × Coming (tables_of l.cells) l.d.s l.z l.s l.initial.stack l.stack l.depth l.n (4096 - l.counter)
