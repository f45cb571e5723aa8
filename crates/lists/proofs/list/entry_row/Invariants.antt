use Rattle.lists.proofs.ListLaws.{ListPassed}
use Rattle.lists.proofs.list.entry_row.Given as goal

abbrev pub invariant-loop : goal.invariant-loop
invariant-loop l = ListPassed l.t l.list l.n l.fn.start l.counter l.at
