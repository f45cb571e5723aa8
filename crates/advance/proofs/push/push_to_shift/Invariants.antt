use lib.ListN.{get_or}
use Rattle.book.specs.Tables.{tables_of}
use Rattle.advance.specs.Push.{StatesPushed}
use Rattle.advance.proofs.push.push_to_shift.Given as goal

abbrev pub invariant-loop-g : goal.invariant-loop-g
invariant-loop-g l = StatesPushed (tables_of l.cells) l.a l.to l.depth l.initial.stack l.top l.g l.stack

abbrev pub decreases-loop-g : goal.decreases-loop-g
decreases-loop-g l = get_or l.to l.g 0
