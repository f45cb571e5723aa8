-- `sorting::sort::sort_from` meets its contract: the plain cells have the book's tables. Assumes nothing.
use Rattle.forms.proofs.FormsLaws.{plain-holds, plain-tables}
use Rattle.sorting.proofs.sort.sort_from.Goals as goal

pub sort_plain-requires-clause-holds : goal.sort_plain-requires-clause-holds
sort_plain-requires-clause-holds c = rw (c.plain_cells-n.ensures.0, c.plain_sizes.ensures) (plain-holds _ _ c.requires.accepted)

pub returns : goal.returns
returns c =
    let e = rw (c.plain_cells-n.ensures.0, c.plain_sizes.ensures) at c.sort_plain.ensures in
    rw (plain-tables _ _ c.requires.accepted) at e
