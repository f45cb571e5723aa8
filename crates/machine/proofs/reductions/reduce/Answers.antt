-- `machine::reductions::reduce` meets its contract: turn by turn, what is left gives what is wanted. Assumes nothing.
use native.Mathlib.Omega.{arith}
use lib.ListN.{length-set}
use Rattle.machine.specs.ReducingLaws.{reducing-none, reducing-more, reducing-ended, reducing-shift}
use borrow.Author.Rules.{rules}
use Rattle.machine.proofs.reductions.reduce.Goals as goal

pub loop-e-preserved : goal.loop-e-preserved
loop-e-preserved c =
    (omega arith, simp length-set c.loop-e.invariant.1, reducing-more c.loop-e.invariant.2 (rw c.in-Reduce.is at c.turn.ensures))
