-- `machine::driver::take_in` meets its contract: after the reductions, a push where there is room. Assumes nothing.
use native.Mathlib.Omega.{arith}
use Rattle.book.specs.Tables.{tables_of}
use Rattle.machine.specs.DrivingLaws.{fed-ended, fed-deep, fed-push}
use Rattle.machine.proofs.driver.take_in.Goals as goal

pub returns-then-n-ge-DEPTH : goal.returns-then-n-ge-DEPTH
returns-then-n-ge-DEPTH c =
    let h = rw c.in-Shift.is at c.reduce.ensures in rw c.stop_at.ensures (fed-deep (tables_of c.args.cells.now) c.args.a c.args.taken c.args.depth h.0 h.1 c.if-n-ge-DEPTH.true)

pub returns-else-n-ge-DEPTH : goal.returns-else-n-ge-DEPTH
returns-else-n-ge-DEPTH c =
    let h = rw c.in-Shift.is at c.reduce.ensures in fed-push (tables_of c.args.cells.now) c.args.a c.args.taken c.args.depth h.0 h.1 h.2 c.if-n-ge-DEPTH.false
