-- `machine::looks::turn` meets its contract: a look, and the limits on it. Assumes nothing.
use mathlib.Core.Path.{refl}
use Rattle.book.specs.Tables.{tables_of}
use Rattle.machine.specs.Machine.{accepts, fails, breaks}
use Rattle.machine.specs.Stack.{stack_of}
use Rattle.machine.specs.ReducingLaws.{turn-stops, turn-shift, turn-spinning, turn-deep, turn-reduce}
use Rattle.machine.proofs.looks.turn.Goals as goal

pub returns-then-left-eq0 : goal.returns-then-left-eq0
returns-then-left-eq0 c =
    let x = c.args in let h = rw c.in-Reduce.is at c.look.ensures in rw c.stop_at-stop.ensures (turn-spinning (tables_of x.cells.now) x.d.s x.stack.now x.depth x.a x.taken x.left c.in-Reduce.m c.in-Reduce.g h c.if-left-eq0.true)

pub returns-then-m-ge-DEPTH : goal.returns-then-m-ge-DEPTH
returns-then-m-ge-DEPTH c =
    let x = c.args in let h = rw c.in-Reduce.is at c.look.ensures in rw c.stop_at-stop.ensures (turn-deep (tables_of x.cells.now) x.d.s x.stack.now x.depth x.a x.taken x.left c.in-Reduce.m c.in-Reduce.g h c.if-left-eq0.false c.if-m-ge-DEPTH.true)

pub returns-in-Accept : goal.returns-in-Accept
returns-in-Accept c =
    let x = c.args in rw c.stop_at-stop.ensures (turn-stops (tables_of x.cells.now) x.a x.taken (stack_of x.stack.now x.depth) x.left accepts _ (rw c.in-Accept.is at c.look.ensures) (λ l. refl))

pub returns-in-Error : goal.returns-in-Error
returns-in-Error c =
    let x = c.args in rw c.stop_at-stop.ensures (turn-stops (tables_of x.cells.now) x.a x.taken (stack_of x.stack.now x.depth) x.left fails _ (rw c.in-Error.is at c.look.ensures) (λ l. refl))

pub returns-in-Broken : goal.returns-in-Broken
returns-in-Broken c =
    let x = c.args in rw c.stop_at-stop.ensures (turn-stops (tables_of x.cells.now) x.a x.taken (stack_of x.stack.now x.depth) x.left breaks _ (rw c.in-Broken.is at c.look.ensures) (λ l. refl))

pub returns-in-Shift : goal.returns-in-Shift
returns-in-Shift c =
    let x = c.args in let h = rw c.in-Shift.is at c.look.ensures in (turn-shift (tables_of x.cells.now) x.a x.taken (stack_of x.stack.now x.depth) x.left _ h.0, h.1)

pub returns-else-m-ge-DEPTH : goal.returns-else-m-ge-DEPTH
returns-else-m-ge-DEPTH c =
    let x = c.args in let h = rw c.in-Reduce.is at c.look.ensures in turn-reduce (tables_of x.cells.now) x.d.s x.stack.now x.depth x.a x.taken x.left c.in-Reduce.m c.in-Reduce.g h c.if-left-eq0.false c.if-m-ge-DEPTH.false
