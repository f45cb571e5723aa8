-- `judgement::admission::admit_room` meets its contract: refusal by refusal. Assumes nothing.
use Rattle.judgement.specs.Judgement.{judge_refusals}
use Rattle.judgement.proofs.admission.admit_room.Goals as goal

pub returns : goal.returns
unfolding judge_refusals
returns c = rw c.work_cells.ensures at c.admit.ensures
