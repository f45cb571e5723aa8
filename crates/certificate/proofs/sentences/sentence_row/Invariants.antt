use Rattle.certificate.specs.SentencesLaws.{SentencesPassed}
use Rattle.certificate.proofs.sentences.sentence_row.Given as goal

abbrev pub invariant-loop-claim : goal.invariant-loop-claim
invariant-loop-claim l = SentencesPassed l.t l.bytes l.pairs l.claim-index l.at
