-- `machine::admission::admit` meets its contract: the book, then step by step what is run on it. Assumes nothing.
use Rattle.std.proofs.lemmas.Result.{err_from_is_err_and}
use Rattle.machine.specs.Run.{run_refusals}
use Rattle.machine.proofs.admission.admit.Goals as goal

pub returns : goal.returns
unfolding run_refusals
returns c = rw (← c.in_ok-d.ensures) (rw c.first_unsound-sound.ensures at c.admit.ensures)
