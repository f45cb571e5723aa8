-- `lengths::lengths::far_breaks` meets its contract. Assumes nothing.
use Rattle.distances.specs.TableLaws.{table-usable}
use Rattle.lengths.specs.TableLaws.{lacking-starts, lacking-most, far-step}
use Rattle.lengths.proofs.lengths.far_breaks.Goals as goal

pub lower_layers-requires-clause-usable : goal.lower_layers-requires-clause-usable
lower_layers-requires-clause-usable c =
    let p = c.requires in table-usable p.holds p.crossing_table.0 p.crossing_table.1

pub lower_layers-requires-clause-sized : goal.lower_layers-requires-clause-sized
lower_layers-requires-clause-sized c =
    let p = c.requires in
    let on = c.lacking_states.ensures in
    (record { size = p.crossing_table.2.size; listed = on.listed }, lacking-most (lacking-starts p.holds p.crossing_table.0 p.crossing_table.2 p.ahead_masks on))

pub returns-clause-table_step : goal.returns-clause-table_step
returns-clause-table_step c =
    let p = c.requires in
    far-step (lacking-starts p.holds p.crossing_table.0 p.crossing_table.2 p.ahead_masks c.lacking_states.ensures) c.lower_layers.ensures.table_step
