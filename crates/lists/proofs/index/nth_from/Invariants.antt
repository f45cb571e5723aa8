use Rattle.lists.proofs.NthLaws.{Skipped}
use Rattle.lists.proofs.index.nth_from.Given as goal

abbrev pub invariant-loop : goal.invariant-loop
invariant-loop l = Skipped l.list l.fn.first l.k l.counter l.rest.at l.rest.left
