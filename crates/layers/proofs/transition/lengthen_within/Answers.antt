-- `layers::transition::lengthen_within` meets its contract. Assumes nothing.
use native.Mathlib.Omega.{arith}
use Prim.Native.Nat.{◌<◌}
use lib.ListN.{get_or}
use Rattle.book.specs.Tables.{tables_of}
use Rattle.walk.specs.Scale.{plain}
use Rattle.layers.specs.LayerLaws.{value_none}
use Rattle.layers.specs.Crossing.{claim_in}
use Rattle.layers.specs.StatesLaws.{listed-none}
use Rattle.layers.specs.StepLaws.{step-zero, step-more, step-done}
use Rattle.layers.specs.LengthenLaws.{leaves-listed, lengthened}
use Rattle.layers.proofs.transition.lengthen_within.Goals as goal

pub loop-i-init : goal.loop-i-init
loop-i-init c = (record { size = c.requires.listed.1; listed = listed-none }, step-zero)

pub leave_state-requires : goal.leave_state-requires
leave_state-requires c =
    let turn-here : c.loop-i.i < get_or c.args.on.now 0 0 = omega (arith, c.loop-i-test.true, c.count_on-n.ensures) in
    let p = c.requires in
    let l = p.listed.0 in
    record {
      usable = p.usable;
      q_lt_s = (rw c.state_on.ensures (l.below _ (turn-here)), p.bound_bound.0, p.bound_bound.1, rw c.state_on.ensures (l.on _ (turn-here)));
      sized = c.loop-i.invariant.0;
    }

pub loop-i-preserved : goal.loop-i-preserved
loop-i-preserved c =
    (c.leave_state.ensures.sized_2, step-more _ _ c.loop-i.invariant.1 (rw c.state_on.ensures at c.leave_state.ensures.table_step))

pub returns : goal.returns
returns c =
    record {
      sized = c.loop-i.invariant.0;
      lengthened_to = lengthened c.requires.usable.fitted.holds _ _ (value_none plain _) (leaves-listed plain c.args.d _ (tables_of c.args.cells.now) (claim_in c.args.d c.args.table.now) _ _ _ c.requires.listed.0 (step-done (omega (arith, c.loop-i.invariant.0, c.count_on-n.ensures)) (omega (arith, c.loop-i-test.false, c.count_on-n.ensures)) c.loop-i.invariant.1));
    }
