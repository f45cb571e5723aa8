-- `book::cells::encode_row` meets its contract: the cells are written one by one. Assumes nothing.
use native.Mathlib.Omega.{arith}
use Prim.Native.Nat.{◌-◌}
use mathlib.Core.Path.{◌∙◌}
use Rattle.book.specs.BytesLaws.{encoded-none, encoded-fits, encoded-more, encoded-done}
use borrow.Author.Rules.{rules}
use Rattle.book.proofs.cells.encode_row.Goals as goal

pub loop-cell-init : goal.loop-cell-init
loop-cell-init c = (omega arith, search rules, encoded-none)

pub write-at-requires : goal.write-at-requires
write-at-requires c =
    record {
      n_bound = omega (arith, c.shared_slice_known-1.given c.loop-cell.cell-index);
      n_in_bounds = rw c.loop-cell.invariant.1 (encoded-fits c.loop-cell.invariant.2 c.loop-cell-test.true c.requires);
    }

pub loop-cell-preserved : goal.loop-cell-preserved
loop-cell-preserved c =
    (omega arith, c.write-at.auto.bytes ∙ c.loop-cell.invariant.1, encoded-more c.loop-cell.invariant.2 c.loop-cell-test.true c.requires c.write-at.ensures.0 c.write-at.ensures.1)

pub returns : goal.returns
returns c = encoded-done c.loop-cell.invariant.2 c.loop-cell-test.false
