-- `pieces::pieces::entry_size` meets its contract: by what reading the entry gave. Assumes nothing.
use mathlib.Core.Path.{sym}
use Rattle.items.specs.SpanLaws.{span_none}
use Rattle.sorting.specs.PutEntryLaws.{span-read, span-refused}
use Rattle.pieces.proofs.pieces.entry_size.Goals as goal

pub returns-then-place-eq0 : goal.returns-then-place-eq0
returns-then-place-eq0 c = rw (c.if-place-eq0.true, span_none)

pub overflow_sub-result : goal.overflow_sub-result
overflow_sub-result c = (span-read c.args.list.now c.args.place c.if-place-eq0.false (sym c.in-Ok.ensures)).ahead

pub returns-in-Err : goal.returns-in-Err
returns-in-Err c = rw (span-refused _ _ (sym c.in-Err.ensures))

pub returns-in-Ok : goal.returns-in-Ok
returns-in-Ok c =
    sym (span-read c.args.list.now c.args.place c.if-place-eq0.false (sym c.in-Ok.ensures)).size
