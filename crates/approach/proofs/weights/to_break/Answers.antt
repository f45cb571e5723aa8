-- `approach::weights::to_break` meets its contract. Assumes nothing.
use Rattle.layers.specs.CrossingLaws.{left_below, length-below}
use Rattle.distances.specs.TableLaws.{table-usable}
use Rattle.approach.specs.WeightsLaws.{weights-bounded, break-costs}
use Rattle.approach.proofs.weights.to_break.Goals as goal

pub layers_to-requires-clause-usable : goal.layers_to-requires-clause-usable
layers_to-requires-clause-usable c =
    let p = c.requires in table-usable p.holds p.crossing_table p.open_rows

pub layers_to-requires-clause-s_lt_s : goal.layers_to-requires-clause-s_lt_s
layers_to-requires-clause-s_lt_s c =
    let p = c.requires in
    let x = p.p_lt_p in
    (x.1, x.2, length-below p.holds c.production_length-len.ensures x.0)

pub without_gotos-requires-clause-x_lt_n : goal.without_gotos-requires-clause-x_lt_n
without_gotos-requires-clause-x_lt_n c =
    let p = c.requires in ((left_below p.holds c.left_side-x.ensures p.p_lt_p.0).0, c.layers_to.ensures.bounded.size)

pub to_goal-requires-clause-bounded : goal.to_goal-requires-clause-bounded
to_goal-requires-clause-bounded c = rw c.without_gotos.ensures (weights-bounded c.requires.holds _ c.layers_to.ensures.bounded)

pub returns-clause-to_break : goal.returns-clause-to_break
returns-clause-to_break c =
    break-costs c.requires.holds c.production_length-len.ensures c.left_side-x.ensures c.layers_to.ensures c.without_gotos.ensures c.to_goal.ensures
