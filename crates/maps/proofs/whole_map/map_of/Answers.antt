-- `maps::whole_map::map_of` meets its contract: refused, or done. Assumes nothing.
use mathlib.Core.Path.{sym}
use Rattle.book.specs.CallLaws.{steps-none}
use Rattle.book.proofs.TablesLaws.{accepted-book}
use Rattle.maps.specs.MapLaws.{map-admitted}
use Rattle.work.specs.WorkLaws.{told-cleared}
use Rattle.maps.proofs.whole_map.map_of.Goals as goal

pub admit_map-requires : goal.admit_map-requires
admit_map-requires c = (accepted-book _ _ c.requires).small

pub fill-requires-clause-d_in_bounds : goal.fill-requires-clause-d_in_bounds
fill-requires-clause-d_in_bounds c = map-admitted _ _ _ (sym c.in_ok-admit_map.ensures)

pub returns : goal.returns
returns c =
    let e = sym c.in_ok-admit_map.ensures in
    rw (c.requires, e, ← (steps-none _ e).0) (told-cleared c.fill.ensures.filled c.fill.ensures.work_after)
