use lib.ListN.{get_or}
use Rattle.items.specs.SpanLaws.{span_at}
use Rattle.sorting.specs.UpToLaws.{PutUpTo}
use Rattle.sorting.proofs.putting.put_entries.Given as goal

abbrev pub invariant-loop-s : goal.invariant-loop-s
invariant-loop-s l = PutUpTo (λ q. span_at l.list (get_or l.places q 0)) l.start l.initial.out l.s l.at l.out
