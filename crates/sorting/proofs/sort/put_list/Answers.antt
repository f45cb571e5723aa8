-- `sorting::sort::put_list` meets its contract: the count, then the entries. Assumes nothing.
use native.Mathlib.Omega.{arith}
use Rattle.sorting.proofs.SortLaws.{list_put}
use Rattle.sorting.specs.UpTo.{spans_to}
use Rattle.sorting.proofs.sort.put_list.Goals as goal

pub returns : goal.returns
returns c =
    let s = c in
    let a = c.args in
    list_put a.list.now (spans_to a.list.now a.places.now a.states) a.out.now a.first c.requires.states_value _ _ (omega arith)
    c.copy_bytes.ensures c.put_entries.ensures
