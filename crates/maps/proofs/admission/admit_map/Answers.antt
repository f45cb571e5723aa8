-- `maps::admission::admit_map` meets its contract: refusal by refusal. Assumes nothing.
use Rattle.maps.specs.Maps.{map_refusals}
use Rattle.maps.proofs.admission.admit_map.Goals as goal

pub returns : goal.returns
unfolding map_refusals
returns c = rw c.work_cells.ensures at c.admit.ensures
