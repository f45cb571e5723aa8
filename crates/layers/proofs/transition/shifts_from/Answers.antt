-- `layers::transition::shifts_from` meets its contract. Assumes nothing.
use native.Mathlib.Omega.{arith}
use mathlib.Core.Path.{◌≡◌, ◌∙◌, sym}
use lib.ListN.{get_or}
use Rattle.book.specs.Tables.{tables_of}
use Rattle.layers.specs.ActionLaws.{shift-below}
use Rattle.layers.specs.StartsLaws.{cells-few, action-read}
use Rattle.layers.specs.StepLaws.{step-zero, step-more, step-done}
use Rattle.layers.proofs.transition.shifts_from.Goals as goal
use Rattle.layers.proofs.transition.shifts_from.Goals.{After-decode-action}

-- the action of the k-th terminal
acts : (c : After-decode-action) → c.decode-action.result ≡ (tables_of c.args.cells.now).act c.args.q (get_or c.args.terminals.now c.loop-k.k 0)
acts c = rw c.action_row-row.ensures at c.decode-action.ensures ∙ sym (action-read c.requires.holds _ _ c.requires.q_lt_s.0 (c.requires.by_index _ c.loop-k-test.true)).1

pub action_row-row-requires : goal.action_row-row-requires
action_row-row-requires c =
    record {
      small = c.requires.holds.small;
      q_lt_s = c.requires.q_lt_s.0;
    }

pub loop-k-init : goal.loop-k-init
loop-k-init c = (c.requires.sized, step-zero)

pub overflow_add-row : goal.overflow_add-row
overflow_add-row c =
    omega (arith, c.action_row-row.ensures, (action-read c.requires.holds _ _ c.requires.q_lt_s.0 (c.requires.by_index _ c.loop-k-test.true)).0)

pub offset_bounds-cells-row : goal.offset_bounds-cells-row
offset_bounds-cells-row c =
    omega (arith, c.action_row-row.ensures, cells-few c.requires.holds, (action-read c.requires.holds _ _ c.requires.q_lt_s.0 (c.requires.by_index _ c.loop-k-test.true)).0)

pub bounds-cells-row : goal.bounds-cells-row
bounds-cells-row c =
    rw c.action_row-row.ensures (action-read c.requires.holds _ _ c.requires.q_lt_s.0 (c.requires.by_index _ c.loop-k-test.true)).0

pub take_shift-requires : goal.take_shift-requires
take_shift-requires c =
    record {
      small = c.requires.holds.small;
      wanted_len = c.requires.q_lt_s.2;
      by_index = (λ s e. (shift-below _ _ c.requires.holds (acts (goal.at.take_shift-requires c).After-decode-action) e).0);
      sized = c.loop-k.invariant.0;
    }

pub loop-k-preserved : goal.loop-k-preserved
loop-k-preserved c =
    (c.take_shift.ensures.sized_2, step-more _ _ c.loop-k.invariant.1 (rw ((acts (goal.at.loop-k-preserved c).After-decode-action), c.add.ensures) at c.take_shift.ensures.table_step))

pub returns : goal.returns
returns c =
    record {
      sized_2 = c.loop-k.invariant.0;
      table_step = step-done c.loop-k.auto.k-end c.loop-k-test.false c.loop-k.invariant.1;
    }
