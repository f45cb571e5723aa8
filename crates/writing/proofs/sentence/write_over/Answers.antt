-- `writing::sentence::write_over` meets its contract. Assumes nothing.
use Rattle.book.proofs.TablesLaws.{in-range}
use Rattle.distances.specs.TableLaws.{table-usable, table-closed, table-witnessed}
use Rattle.writing.proofs.sentence.write_over.Goals as goal

pub choose-requires-clause-usable : goal.choose-requires-clause-usable
choose-requires-clause-usable c = table-usable c.requires.holds c.requires.crossing_table.0 c.requires.crossing_table.1

pub choose-requires-clause-closed : goal.choose-requires-clause-closed
choose-requires-clause-closed c =
    let p = c.requires in (table-closed p.holds p.crossing_table.0, table-witnessed p.holds p.crossing_table.0)

pub choose-requires-clause-pends : goal.choose-requires-clause-pends
choose-requires-clause-pends c = record { range = in-range c.requires.holds; positions = c.mark_all.ensures }
