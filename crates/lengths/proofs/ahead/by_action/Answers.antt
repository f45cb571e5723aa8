-- `lengths::ahead::by_action` meets its contract. Assumes nothing.
use Rattle.layers.specs.ActionLaws.{shift-below, reduce-below}
use Rattle.lengths.specs.AheadLaws.{none-by-shift}
use Rattle.lengths.proofs.ahead.by_action.Goals as goal

pub bounds-after-g : goal.bounds-after-g
bounds-after-g c = (shift-below _ _ c.requires.holds c.action_at.ensures c.in-Shift.is).1

pub by_production-requires-clause-p_lt_p : goal.by_production-requires-clause-p_lt_p
by_production-requires-clause-p_lt_p c = reduce-below _ _ c.requires.holds c.action_at.ensures c.in-Reduce.is

pub returns-in-Shift : goal.returns-in-Shift
returns-in-Shift c = none-by-shift c.action_at.ensures _ _ c.in-Shift.is
