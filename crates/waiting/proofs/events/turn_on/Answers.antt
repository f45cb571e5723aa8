-- `waiting::events::turn_on` meets its contract. Assumes nothing.
use mathlib.Core.Path.{refl}
use Rattle.waiting.specs.EventLaws.{row_open, row-cleared}
use Rattle.waiting.proofs.events.turn_on.Goals as goal

pub returns-then-events-row-ne0-clause-row_on : goal.returns-then-events-row-ne0-clause-row_on
returns-then-events-row-ne0-clause-row_on c =
    let p = c.requires in
    record { on = rw (row_open _ _ p.row_bound.1) c.if-events-row-ne0.true; same = λ row c l. refl }

pub returns-clause-row_on : goal.returns-clause-row_on
returns-clause-row_on c =
    let p = c.requires in
    row-cleared _ c.args.events.now p.row_bound.0 p.events_len p.row_bound.1 c.if-events-row-ne0.false c.fill.ensures
