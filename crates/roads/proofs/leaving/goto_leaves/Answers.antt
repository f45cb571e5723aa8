-- `roads::leaving::goto_leaves` meets its contract. Assumes nothing.
use borrow.Author.Tests.{ltb-false}
use Rattle.layers.specs.CrossingLaws.{row_fits}
use Rattle.roads.specs.LeavingLaws.{unclaimed-row}
use Rattle.roads.proofs.leaving.goto_leaves.Goals as goal

pub least_in-requires : goal.least_in-requires
least_in-requires c =
    let p = c.requires in row_fits p.fitted p.q_lt_s.0 p.q_lt_s.2 p.q_lt_s.1 c.crossing_row.ensures

pub returns : goal.returns
returns c = λ e. unclaimed-row _ c.crossing_row.ensures c.least_in.ensures (ltb-false _ _ e)
