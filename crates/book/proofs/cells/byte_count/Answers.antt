-- `book::cells::byte_count` meets its contract. Assumes nothing.
use native.Mathlib.Omega.{arith}
use Prim.Native.Nat.{◌-◌, ℕ}
use mathlib.Core.Path.{refl, ◌∙◌, ap}
use lib.ListN.{length}
use mathlib.Core.List.{List}
use lib.Seq.{take_all}
use Rattle.book.specs.Book.{bytes_of}
use Rattle.book.specs.BytesLaws.{bytes_count, bytes_fit, bytes_most}
use Rattle.book.proofs.cells.byte_count.Goals as goal

pub overflow_add-n : goal.overflow_add-n
overflow_add-n c =
    omega (arith, bytes_fit c.args.cells.now c.loop-cell.cell-index c.loop-cell-test.true, bytes_most c.args.cells.now, c.width-n.ensures)

pub loop-cell-preserved : goal.loop-cell-preserved
loop-cell-preserved c =
    (omega arith, omega (arith, bytes_count c.args.cells.now c.loop-cell.cell-index c.loop-cell-test.true, c.width-n.ensures))
