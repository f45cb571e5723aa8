-- `maps::start_distances::distances_in` meets its contract: the plain cells have the book's tables. Assumes nothing.
use Rattle.forms.proofs.FormsLaws.{plain-holds}
use Rattle.maps.specs.AlikeLaws.{start_plain}
use Rattle.maps.proofs.start_distances.distances_in.Goals as goal

pub distances_plain-requires-clause-holds : goal.distances_plain-requires-clause-holds
distances_plain-requires-clause-holds c = rw (c.plain_cells-n.ensures.0, c.plain_sizes.ensures) (plain-holds _ _ c.requires.accepted)

pub returns-clause-start_table : goal.returns-clause-start_table
returns-clause-start_table c =
    start_plain _ _ c.requires.accepted (rw (c.plain_cells-n.ensures.0, c.plain_sizes.ensures) at c.distances_plain.ensures.start_table)
