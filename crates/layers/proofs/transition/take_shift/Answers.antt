-- `layers::transition::take_shift` meets its contract. Assumes nothing.
use native.Mathlib.Omega.{arith}
use Rattle.layers.specs.ActionLaws.{error-shiftless, accept-shiftless, reduce-shiftless}
use Rattle.layers.specs.LayerLaws.{sized-most}
use Rattle.layers.specs.LengthenLaws.{step-shift}
use Rattle.layers.specs.StepLaws.{step-none}
use mathlib.Core.Path.{◌≡◌, refl}
use Rattle.layers.proofs.transition.take_shift.Goals as goal

pub bounds-wanted-s : goal.bounds-wanted-s
bounds-wanted-s c =
    omega (arith, c.requires.by_index _ c.in-Shift.is, c.requires.small.states, c.requires.wanted_len)

pub returns-then-wanted-s-eq0 : goal.returns-then-wanted-s-eq0
returns-then-wanted-s-eq0 c =
    record {
      sized_2 = c.requires.sized;
      table_step = step-none (λ q z w (e, hz, ew, k) h u. let i : q ≡ c.in-Shift.s = cc in k.on (rw i c.if-wanted-s-eq0.true));
    }

pub turn_on-requires : goal.turn_on-requires
turn_on-requires c =
    record {
      sized = sized-most c.requires.small.states c.requires.sized;
      g_bound = omega (arith, c.requires.by_index _ c.in-Shift.is, c.requires.small.states);
    }

pub level-requires : goal.level-requires
level-requires c =
    (omega (arith, c.requires.by_index _ c.in-Shift.is, c.requires.small.states), c.requires.small.terminals, (c.turn_on.ensures.by_index _ (c.requires.by_index _ c.in-Shift.is) c.requires.sized).size)

pub returns-else-wanted-s-eq0 : goal.returns-else-wanted-s-eq0
returns-else-wanted-s-eq0 c =
    record {
      sized_2 = record { size = c.level.ensures.values_len; listed = (c.turn_on.ensures.by_index _ (c.requires.by_index _ c.in-Shift.is) c.requires.sized).listed };
      table_step = step-shift c.args.d _ _ _ _ _ _ c.in-Shift.is (record { on = c.if-wanted-s-eq0.false }) c.turn_on.ensures.turned_on c.level.ensures.table_step;
    }

pub returns-in-Error : goal.returns-in-Error
returns-in-Error c =
    record {
      sized_2 = c.requires.sized;
      table_step = step-none (λ q z w (e, hz, ew, k) h u. error-shiftless refl c.in-Error.is q e);
    }

pub returns-in-Accept : goal.returns-in-Accept
returns-in-Accept c =
    record {
      sized_2 = c.requires.sized;
      table_step = step-none (λ q z w (e, hz, ew, k) h u. accept-shiftless refl c.in-Accept.is q e);
    }

pub returns-in-Reduce : goal.returns-in-Reduce
returns-in-Reduce c =
    record {
      sized_2 = c.requires.sized;
      table_step = step-none (λ q z w (e, hz, ew, k) h u. reduce-shiftless refl c.in-Reduce.is q e);
    }
