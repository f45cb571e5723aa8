-- `layers::transition::take_goto` meets its contract. Assumes nothing.
use native.Mathlib.Omega.{arith}
use mathlib.Core.Path.{◌≡◌}
use Prim.Native.Nat.{◌-◌}
use Rattle.layers.specs.LayerLaws.{sized-most}
use Rattle.layers.specs.LengthenLaws.{step-goto}
use Rattle.layers.specs.StepLaws.{step-none}
use Rattle.layers.proofs.transition.take_goto.Goals as goal

pub returns-then-target-eq0 : goal.returns-then-target-eq0
returns-then-target-eq0 c =
    record {
      sized_2 = c.requires.sized;
      table_step = step-none (λ q z w (j, hj, (e, hz, ew, k)) h u. omega (arith, e, c.if-target-eq0.true));
    }

pub bounds-wanted-g : goal.bounds-wanted-g
bounds-wanted-g c =
    omega (arith, c.if-target-eq0.false, c.requires.target_le_s, c.requires.small.states)

pub returns-then-wanted-g-eq0 : goal.returns-then-wanted-g-eq0
returns-then-wanted-g-eq0 c =
    record {
      sized_2 = c.requires.sized;
      table_step = step-none (λ q z w (j, hj, (e, hz, ew, k)) h u. let i : q ≡ c.args.target - 1 = omega (arith, e) in k.on (rw i c.if-wanted-g-eq0.true));
    }

pub turn_on-requires : goal.turn_on-requires
turn_on-requires c =
    record {
      sized = sized-most c.requires.small.states c.requires.sized;
      g_bound = omega (arith, c.if-target-eq0.false, c.requires.target_le_s.0, c.requires.small.states);
    }

pub relax_by-requires : goal.relax_by-requires
relax_by-requires c =
    record {
      g_bound = (omega (arith, c.if-target-eq0.false, c.requires.target_le_s.0, c.requires.small.states), c.requires.small.terminals, c.requires.target_le_s.1, (c.turn_on.ensures.by_index _ (omega (arith, c.if-target-eq0.false, c.requires.target_le_s.0)) c.requires.sized).size);
      by_index = c.requires.by_index;
    }

pub returns : goal.returns
returns c =
    record {
      sized_2 = record { size = c.relax_by.ensures.values_len; listed = (c.turn_on.ensures.by_index _ (omega (arith, c.if-target-eq0.false, c.requires.target_le_s.0)) c.requires.sized).listed };
      table_step = step-goto c.args.d c.args.table.now c.args.start c.args.offsets.now c.args.costs.now _ _ _ _ _ (omega (arith, c.if-target-eq0.false)) (record { on = c.if-wanted-g-eq0.false }) c.turn_on.ensures.turned_on c.relax_by.ensures.table_step;
    }
