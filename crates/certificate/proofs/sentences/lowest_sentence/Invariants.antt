use mathlib.Core.Path.{◌≡◌}
use lib.ListN.{length}
use Rattle.book.specs.Tables.{tables_of}
use Rattle.certificate.proofs.WrongLaws.{Standing}
use Rattle.certificate.proofs.sentences.lowest_sentence.Given as goal

abbrev pub invariant-loop-k : goal.invariant-loop-k
invariant-loop-k l = (length l.stack ≡ 1024) × Standing (tables_of l.cells) l.d.t l.bytes l.pairs l.k l.at
