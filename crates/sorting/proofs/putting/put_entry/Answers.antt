-- `sorting::putting::put_entry` meets its contract: by what reading the entry gave. Assumes nothing.
use mathlib.Core.List.{[]}
use mathlib.Core.Path.{◌≡◌, sym}
use native.Mathlib.Omega.{arith}
use Rattle.items.specs.SpanLaws.{span_at, span_none}
use Rattle.sorting.specs.PutEntryLaws.{span-read, span-refused}
use Rattle.sorting.proofs.putting.put_entry.Goals as goal

pub returns-then-place-eq0 : goal.returns-then-place-eq0
returns-then-place-eq0 c =
    let none : span_at c.args.list.now c.args.place ≡ [] = rw c.if-place-eq0.true (span_none c.args.list.now) in
    record {
      value = rw none (omega arith);
      out_after = rw none;
    }

pub overflow_sub-n : goal.overflow_sub-n
overflow_sub-n c = (span-read c.args.list.now c.args.place c.if-place-eq0.false (sym c.in-Ok.ensures)).ahead

pub copy_bytes-requires : goal.copy_bytes-requires
copy_bytes-requires c =
    let f = span-read c.args.list.now c.args.place c.if-place-eq0.false (sym c.in-Ok.ensures) in
    (omega (arith, f.ahead, f.within), omega (arith, f.size, c.requires))

pub overflow_add-result : goal.overflow_add-result
overflow_add-result c =
    let f = span-read c.args.list.now c.args.place c.if-place-eq0.false (sym c.in-Ok.ensures) in
    omega (arith, f.size, c)

pub returns-in-Err : goal.returns-in-Err
returns-in-Err c =
    let none = span-refused _ _ (sym c.in-Err.ensures) in
    record {
      value = rw none (omega arith);
      out_after = rw none;
    }

pub returns-in-Ok : goal.returns-in-Ok
returns-in-Ok c =
    let f = span-read c.args.list.now c.args.place c.if-place-eq0.false (sym c.in-Ok.ensures) in
    record {
      value = omega (arith, f.size);
      out_after = rw f.bytes_of c.copy_bytes.ensures;
    }
