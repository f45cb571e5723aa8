-- `maps::admission::admit_sets` meets its contract: refusal by refusal. Assumes nothing.
use Rattle.maps.specs.Maps.{sets_refusals}
use Rattle.maps.proofs.admission.admit_sets.Goals as goal

pub returns : goal.returns
unfolding sets_refusals
returns c = rw c.work_cells.ensures at c.admit.ensures
