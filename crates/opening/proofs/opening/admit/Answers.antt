-- `opening::opening::admit` meets its contract: refusal by refusal. Assumes nothing.
use Rattle.opening.specs.Prepare.{listing_refusals}
use Rattle.opening.proofs.opening.admit.Goals as goal

pub returns : goal.returns
unfolding listing_refusals
returns c = rw c.work_cells.ensures at c.admit.ensures
