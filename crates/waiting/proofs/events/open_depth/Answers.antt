-- `waiting::events::open_depth` meets its contract. Assumes nothing.
use Rattle.waiting.specs.EventLaws.{depth-cleared}
use Rattle.waiting.proofs.events.open_depth.Goals as goal

pub returns-clause-depth_on : goal.returns-clause-depth_on
returns-clause-depth_on c =
    let p = c.requires in
    depth-cleared _ c.args.events.now p.k_bound p.events_len c.if-events-k-ne0.false c.fill.ensures
