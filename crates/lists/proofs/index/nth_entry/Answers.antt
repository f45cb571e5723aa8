-- `lists::index::nth_entry` meets its contract: the check, then the entry. Assumes nothing.
use Rattle.std.proofs.Common.{sym}
use Rattle.std.proofs.lemmas.Result.{err_from_is_err_and}
use Rattle.lists.proofs.NthLaws.{nth-stop, nth_on}
use Rattle.lists.proofs.index.nth_entry.Goals as goal

pub returns : goal.returns
returns c = nth_on _ _ _ _ _ (sym c.in_ok-rest.ensures) c.nth_from.ensures
