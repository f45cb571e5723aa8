-- `opening::opening::prepare_in` meets its contract: what is admitted gets its crossing table. Assumes nothing.
use native.Mathlib.Omega.{arith}
use mathlib.Core.Path.{refl, sym}
use lib.Seq.{length-take-le}
use Rattle.std.proofs.lemmas.Result.{err_from_is_err_and}
use Rattle.book.specs.CallLaws.{steps-none}
use Rattle.book.proofs.TablesLaws.{accepted-book}
use Rattle.forms.proofs.FormsLaws.{plain-holds}
use Rattle.opening.specs.PrepareLaws.{listing-room, beyond-same}
use Rattle.opening.proofs.opening.prepare_in.Goals as goal

pub returns-in_err-admit : goal.returns-in_err-admit
returns-in_err-admit c =
    let p = err_from_is_err_and c.from_residual.result c.from_residual.ensures.1 in
    record { ends = rw (p.1, p.2, c.requires, ← c.in_err-admit.ensures) }

pub admit-requires : goal.admit-requires
admit-requires c = (accepted-book _ _ c.requires).small

pub slice_bounds-open_rows-end : goal.slice_bounds-open_rows-end
slice_bounds-open_rows-end c =
    sym (length-take-le _ _ (omega (arith, c.plain_cells-n.ensures.1, c.plain_cells-n.auto.to)))

pub open_rows-requires : goal.open_rows-requires
open_rows-requires c = rw (c.plain_cells-n.ensures.0, c.plain_sizes-sizes.ensures) (plain-holds _ _ c.requires)

pub slice_bounds-crossings-end : goal.slice_bounds-crossings-end
slice_bounds-crossings-end c =
    sym (length-take-le _ _ (omega (arith, c.plain_cells-n.ensures.1, c.plain_cells-n.auto.to)))

pub crossings-requires : goal.crossings-requires
crossings-requires c =
    let room = listing-room _ _ (sym c.in_ok-admit.ensures) in
    record {
      holds = rw (c.plain_cells-n.ensures.0, c.plain_sizes-sizes.ensures) (plain-holds _ _ c.requires);
      d_in_bounds = rw c.plain_sizes-sizes.ensures (omega (arith, room));
      open_rows = c.open_rows.ensures;
    }

pub returns : goal.returns
returns c =
    let e = sym c.in_ok-admit.ensures in
    let k = rw (c.plain_cells-n.ensures.0, c.plain_sizes-sizes.ensures) at c.crossings.ensures in
    record { ends = rw (c.requires, e, ← (steps-none _ e).0) (record { thing = _; right = (k.crossing_table, beyond-same k.beyond); same = refl }) }
