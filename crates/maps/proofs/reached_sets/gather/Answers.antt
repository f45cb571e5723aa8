-- `maps::reached_sets::gather` meets its contract: the sets of the distances. Assumes nothing.
use Rattle.book.proofs.TablesLaws.{accepted-book}
use Rattle.maps.specs.ReachedLaws.{sets-gathered}
use borrow.Author.Rules.{rules}
use Rattle.maps.proofs.reached_sets.gather.Goals as goal

pub write_sets-requires-clause-dist_len : goal.write_sets-requires-clause-dist_len
write_sets-requires-clause-dist_len c =
    let small = (accepted-book _ _ c.requires.accepted).small in search rules

pub returns-clause-gathered : goal.returns-clause-gathered
returns-clause-gathered c =
    sets-gathered c.distances_in.ensures.start_table c.write_sets.ensures.masks_after c.write_sets.ensures.sizes_after
