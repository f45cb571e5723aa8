-- `machine::driver::finish` meets its contract: what would be shifted is passed. Assumes nothing.
use native.Mathlib.Omega.{arith}
use Rattle.book.specs.Tables.{tables_of}
use Rattle.machine.specs.DrivingLaws.{finish-ended, finish-shift}
use Rattle.machine.proofs.driver.finish.Goals as goal

pub returns-in-Ended : goal.returns-in-Ended
returns-in-Ended c =
    let h = rw c.in-Ended.is at c.reduce.ensures in finish-ended (tables_of c.args.cells.now) c.args.z c.args.taken c.args.depth h.0 h.1 c.clear.ensures

pub returns-in-Shift : goal.returns-in-Shift
returns-in-Shift c =
    let h = rw c.in-Shift.is at c.reduce.ensures in rw c.stop_at-stop.ensures (finish-shift (tables_of c.args.cells.now) c.args.z c.args.taken c.args.depth h.0 h.1 c.clear-in-Shift.ensures)
