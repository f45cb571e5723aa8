-- `layers::transition::gotos_from` meets its contract. Assumes nothing.
use native.Mathlib.Omega.{arith}
use mathlib.Core.Path.{◌≡◌}
use Prim.Native.Nat.{◌+◌, ◌≤◌, ◌<◌}
use lib.ListN.{get_or, length}
use Rattle.book.specs.IndexLaws.{mul_small}
use Rattle.book.specs.Tables.{tables_of}
use Rattle.layers.specs.CrossingLaws.{rows_fit}
use Rattle.layers.specs.StartsLaws.{cells-few, goto-read}
use Rattle.layers.specs.StepLaws.{step-zero, step-more, step-done}
use Rattle.layers.proofs.transition.gotos_from.Goals as goal
use Rattle.layers.proofs.transition.gotos_from.Goals.{In-loop-x}

-- the cell of the goto
cell : (c : In-loop-x) → (c.goto_row-row.result + c.loop-x.x < length c.args.cells.now) × ((tables_of c.args.cells.now).goto c.args.q c.loop-x.x ≡ get_or c.args.cells.now (c.goto_row-row.result + c.loop-x.x) 0) × (get_or c.args.cells.now (c.goto_row-row.result + c.loop-x.x) 0 ≤ c.args.d.s)
cell c = rw c.goto_row-row.ensures (goto-read c.requires.fitted.holds _ _ c.requires.q_lt_s.0 c.loop-x-test.true)

pub goto_row-row-requires : goal.goto_row-row-requires
goto_row-row-requires c =
    record {
      small = c.requires.fitted.holds.small;
      q_lt_s = c.requires.q_lt_s.0;
    }

pub crossing_rows-start-requires : goal.crossing_rows-start-requires
crossing_rows-start-requires c =
    record {
      small = c.requires.fitted.holds.small;
      q_lt_s = c.requires.q_lt_s.0;
    }

pub block-width-requires : goal.block-width-requires
block-width-requires c = c.requires.fitted.holds.small.terminals

pub loop-x-init : goal.loop-x-init
loop-x-init c = (c.requires.sized, step-zero)

pub overflow_add-row : goal.overflow_add-row
overflow_add-row c =
    omega (arith, (cell (goal.at.overflow_add-row c).In-loop-x).0)

pub offset_bounds-cells-row : goal.offset_bounds-cells-row
offset_bounds-cells-row c =
    omega (arith, (cell (goal.at.offset_bounds-cells-row c).In-loop-x).0, cells-few c.requires.fitted.holds)

pub bounds-cells-row : goal.bounds-cells-row
bounds-cells-row c =
    (cell (goal.at.bounds-cells-row c).In-loop-x).0

pub overflow_mul-x : goal.overflow_mul-x
overflow_mul-x c =
    omega (arith, mul_small c.loop-x.x 32 c.block-width.result 1024 (omega (arith, c.loop-x-test.true, c.requires.fitted.holds.small.nonterminals)) c.block-width.ensures.1)

pub overflow_add-start : goal.overflow_add-start
overflow_add-start c =
    omega (arith, mul_small c.loop-x.x 32 c.block-width.result 1024 (omega (arith, c.loop-x-test.true, c.requires.fitted.holds.small.nonterminals)) c.block-width.ensures.1, c.crossing_rows-start.ensures.1)

pub take_goto-requires : goal.take_goto-requires
take_goto-requires c =
    record {
      small = c.requires.fitted.holds.small;
      target_le_s = ((cell (goal.at.take_goto-requires c).In-loop-x).2, c.requires.q_lt_s.1, c.requires.q_lt_s.2);
      by_index = (λ j h. rw (c.crossing_rows-start.ensures.0, c.block-width.ensures.0) (rows_fit _ c.requires.fitted c.requires.q_lt_s.0 c.loop-x-test.true (c.requires.by_index j h)));
      sized = c.loop-x.invariant.0;
    }

pub loop-x-preserved : goal.loop-x-preserved
loop-x-preserved c =
    (c.take_goto.ensures.sized_2, step-more _ _ c.loop-x.invariant.1 (rw (← c.crossing_rows-start.ensures.0, ← c.block-width.ensures.0, (cell (goal.at.loop-x-preserved c).In-loop-x).1) c.take_goto.ensures.table_step))

pub returns : goal.returns
returns c =
    record {
      sized_2 = c.loop-x.invariant.0;
      table_step = step-done c.loop-x.auto.x-end c.loop-x-test.false c.loop-x.invariant.1;
    }
