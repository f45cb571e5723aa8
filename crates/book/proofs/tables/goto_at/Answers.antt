-- `book::tables::goto_at` meets its contract. Assumes nothing.
use native.Mathlib.Omega.{arith}
use mathlib.Core.Path.{sym}
use Rattle.book.specs.IndexLaws.{index_below}
use Rattle.book.specs.RangeLaws.{actions-few}
use Rattle.book.proofs.TablesLaws.{goto-inside}
use Rattle.book.proofs.tables.goto_at.Goals as goal

pub bounds-cells-p : goal.bounds-cells-p
bounds-cells-p c = omega (arith, index_below c.args.d.s c.args.d.n c.args.q c.args.x (omega arith) (omega arith), actions-few _ c.requires.holds.small)

pub returns : goal.returns
returns c = sym (goto-inside c.requires.holds _ _ c.requires.q_lt_s.0 c.requires.q_lt_s.1)
