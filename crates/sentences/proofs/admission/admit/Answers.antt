-- `sentences::admission::admit` meets its contract: refusal by refusal. Assumes nothing.
use Rattle.sentences.specs.Sentences.{sentences_refusals}
use Rattle.sentences.proofs.admission.admit.Goals as goal

pub returns : goal.returns
unfolding sentences_refusals
returns c = rw c.work_cells.ensures at c.admit.ensures
