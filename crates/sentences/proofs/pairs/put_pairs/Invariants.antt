use Rattle.book.specs.Order.{place_in}
use Rattle.book.specs.Tables.{tables_of}
use Rattle.sentences.proofs.PartsLaws.{Pairs}
use lib.ListN.{length}
use mathlib.Core.Path.{◌≡◌}
use Rattle.sentences.proofs.pairs.put_pairs.Given as goal

abbrev pub invariant-loop-i : goal.invariant-loop-i
invariant-loop-i l = (length l.sentence ≡ 1000) × Pairs l.breaks (place_in l.order) (tables_of l.cells) l.d.t l.initial.map l.initial.bytes l.map l.bytes l.at l.i
