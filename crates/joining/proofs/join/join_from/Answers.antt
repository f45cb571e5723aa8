-- `joining::join::join_from` meets its contract: the plain cells have the book's tables. Assumes nothing.
use mathlib.Core.Path.{sym}
use native.Mathlib.Omega.{arith}
use lib.Seq.{length-take-le}
use Rattle.forms.proofs.FormsLaws.{plain-holds, plain-tables}
use Rattle.joining.proofs.join.join_from.Goals as goal

pub slice_bounds-join_plain-end : goal.slice_bounds-join_plain-end
slice_bounds-join_plain-end c =
    sym (length-take-le _ _ (omega (arith, c.plain_cells-n.ensures.1, c.plain_cells-n.auto.to)))

pub join_plain-requires : goal.join_plain-requires
join_plain-requires c =
    let p = c.requires in
    let sizes = c.plain_sizes.ensures in
    record {
      holds = rw (c.plain_cells-n.ensures.0, sizes) (plain-holds _ _ p.accepted);
      both_accepted = rw sizes p.both_accepted;
    }

pub returns : goal.returns
returns c =
    let p = c.requires in
    let e = rw (c.plain_cells-n.ensures.0, c.plain_sizes.ensures) at c.join_plain.ensures in
    rw (plain-tables _ _ p.accepted) at e
