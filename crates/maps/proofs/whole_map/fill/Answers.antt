-- `maps::whole_map::fill` meets its contract: the rows of the distances are the map. Assumes nothing.
use Rattle.book.proofs.TablesLaws.{accepted-book}
use Rattle.maps.specs.MapLaws.{rows-map}
use borrow.Author.Rules.{rules}
use Rattle.maps.proofs.whole_map.fill.Goals as goal

pub copy_rows-requires : goal.copy_rows-requires
copy_rows-requires c =
    let small = (accepted-book _ _ c.requires.accepted).small in search rules

pub returns-clause-filled : goal.returns-clause-filled
returns-clause-filled c =
    rows-map (accepted-book _ _ c.requires.accepted).small c.distances_in.ensures.start_table c.copy_rows.ensures
