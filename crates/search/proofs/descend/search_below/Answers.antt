-- `search::descend::search_below` meets its contract. Assumes nothing.
use native.Mathlib.Omega.{arith}
use Rattle.walk.specs.Scale.{plain}
use Rattle.waiting.specs.EventLaws.{event-none}
use Rattle.waiting.specs.ExpandLaws.{holds-narrow}
use Rattle.search.specs.SearchLaws.{descent-start}
use Rattle.search.proofs.descend.search_below.Goals as goal

pub returns-clause-searched : goal.returns-clause-searched
returns-clause-searched c =
    let p = c.requires in
    let s = p.in_bounds in
    let f = c.descend.ensures in
    let start = descent-start c.args.stack.now s.0 (holds-narrow p.usable.fitted.holds) (omega (arith, p.a_lt_t.1)) s.1 p.r_bound (λ row c' k l. event-none plain c.args.events.now p.search_room.rows c.fill.ensures row c') c.expand.ensures.table_step in
    f.searched_below c.args.a start
