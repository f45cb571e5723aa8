-- `maps::reached_sets::sets_of` meets its contract: refused, or done. Assumes nothing.
use mathlib.Core.Path.{sym}
use Rattle.book.specs.CallLaws.{steps-none}
use Rattle.book.proofs.TablesLaws.{accepted-book}
use Rattle.maps.specs.MapLaws.{sets-admitted}
use Rattle.work.specs.WorkLaws.{told-cleared}
use Rattle.maps.proofs.reached_sets.sets_of.Goals as goal

pub admit_sets-requires : goal.admit_sets-requires
admit_sets-requires c = (accepted-book _ _ c.requires).small

pub gather-requires-clause-d_in_bounds : goal.gather-requires-clause-d_in_bounds
gather-requires-clause-d_in_bounds c = sets-admitted _ _ _ _ (sym c.in_ok-admit_sets.ensures)

pub returns : goal.returns
returns c =
    let e = sym c.in_ok-admit_sets.ensures in
    rw (c.requires, e, ← (steps-none _ e).0) (told-cleared c.gather.ensures.gathered c.gather.ensures.work_after)
