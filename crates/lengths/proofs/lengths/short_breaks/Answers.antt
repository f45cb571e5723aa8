-- `lengths::lengths::short_breaks` meets its contract. Assumes nothing.
use native.Mathlib.Omega.{arith}
use Rattle.book.proofs.TablesLaws.{in-range}
use Rattle.layers.specs.CrossingLaws.{states-are}
use Rattle.layers.specs.StatesLaws.{listed-most}
use Rattle.distances.specs.TableLaws.{table-usable}
use Rattle.lengths.specs.TableLaws.{bottom-starts, bottom-most, short-step}
use Rattle.lengths.proofs.lengths.short_breaks.Goals as goal

pub lower_layers-requires-clause-usable : goal.lower_layers-requires-clause-usable
lower_layers-requires-clause-usable c =
    let p = c.requires in table-usable p.holds p.crossing_table.0 p.crossing_table.1

pub lower_layers-requires-clause-sized : goal.lower_layers-requires-clause-sized
lower_layers-requires-clause-sized c =
    let h = c.requires.holds in
    let level = c.level.ensures in
    let on = c.all_on.ensures in
    (record { size = level.values_len; listed = listed-most (omega (arith, (in-range h).start, states-are h)) on.listed }, bottom-most (bottom-starts h _ level.table_step on))

pub returns-clause-table_step : goal.returns-clause-table_step
returns-clause-table_step c =
    short-step (bottom-starts c.requires.holds _ c.level.ensures.table_step c.all_on.ensures) c.lower_layers.ensures.table_step
