-- `finder::admission::admit_pair` meets its contract: refusal by refusal. Assumes nothing.
use Rattle.finder.specs.Finder.{pair_refusals}
use Rattle.finder.proofs.admission.admit_pair.Goals as goal

pub returns : goal.returns
unfolding pair_refusals
returns c = rw c.work_cells.ensures at c.admit.ensures
