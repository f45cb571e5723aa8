-- `waiting::events::lower` meets its contract. Assumes nothing.
use native.Mathlib.Omega.{arith}
use mathlib.Core.Path.{refl}
use Rattle.layers.specs.StepLaws.{step_from, step-least}
use Rattle.waiting.specs.EventLaws.{step_row}
use Rattle.waiting.proofs.events.lower.Goals as goal

pub returns-clause-table_step : goal.returns-clause-table_step
returns-clause-table_step c =
    let p = c.requires in
    let o = c.turn_on.ensures in
    step_from c.open_depth.ensures.depth_on.same (step_row _ _ _ (omega (arith, p.k_bound)) p.k_bound.2 o.row_on (step-least _ _ _ _ _ _ _ p.k_bound.2 (omega (arith, o.events_len_2, p.k_bound)) c.least.ensures refl refl))
