-- `lists::entries::entry_at` meets its contract: the length, then the rest. Assumes nothing.
use Rattle.std.proofs.lemmas.Result.{err_from_is_err_and}
use Rattle.lists.specs.Entry.{entry_at}
use Rattle.lists.proofs.entries.entry_at.Goals as goal

pub returns-in_err-len : goal.returns-in_err-len
unfolding entry_at
returns-in_err-len c =
    let p = err_from_is_err_and c.from_residual.result c.from_residual.ensures.1 in
    rw (p.1, p.2) (rw (← c.read.ensures, ← c.in_err-len.ensures))

pub returns : goal.returns
unfolding entry_at
returns c = rw (← c.read.ensures, ← c.in_ok-len.ensures) c.after_length.ensures
