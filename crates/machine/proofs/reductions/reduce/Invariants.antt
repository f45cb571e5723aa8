use mathlib.Core.Path.{◌≡◌}
use Prim.Native.Nat.{◌≤◌}
use lib.ListN.{length}
use Rattle.book.specs.Tables.{tables_of}
use Rattle.machine.specs.Run.{reducing}
use Rattle.machine.specs.Stack.{stack_of}
use Rattle.machine.specs.ReducingLaws.{Reducing}
use Rattle.machine.proofs.reductions.reduce.Given as goal

abbrev pub invariant-loop-e : goal.invariant-loop-e
invariant-loop-e l = (l.left ≤ 4096) × (length l.stack ≡ length l.initial.stack) × Reducing (tables_of l.cells) l.d.s l.a l.taken l.initial.stack (reducing (tables_of l.cells) l.a l.taken 4096 (stack_of l.initial.stack l.depth)) l.stack l.n l.left

abbrev pub decreases-loop-e : goal.decreases-loop-e
decreases-loop-e l = l.left
