-- `certificate::sentences::sentence_row` meets its contract: the pairs are followed one by one. Assumes nothing.
use Rattle.std.proofs.Common.{sym}
use Rattle.std.proofs.lemmas.Result.{err_from_is_err_and}
use Rattle.certificate.specs.SentencesLaws.{passed-some, passed-long, passed-stop, passed-done}
use Rattle.certificate.proofs.sentences.sentence_row.Goals as goal
use Rattle.certificate.proofs.sentences.sentence_row.Goals.{then-claim-le-LIMIT+in_ok-at, else-claim-le-LIMIT}

pub returns-in_err-at : goal.returns-in_err-at
returns-in_err-at c =
    let p = err_from_is_err_and c.from_residual.result c.from_residual.ensures.1 in
    rw (p.1, p.2) (passed-stop c.loop-claim.invariant c.loop-claim-test.true c.if-claim-le-LIMIT.true (sym c.in_err-at.ensures))

pub loop-claim-preserved : goal.loop-claim-preserved
loop-claim-preserved c =
    elim c.if-claim-le-LIMIT.branch [
      | then-claim-le-LIMIT+in_ok-at w ↦ rw w.at-is (passed-some c.loop-claim.invariant c.loop-claim-test.true w.if-claim-le-LIMIT.true (sym w.in_ok-at.ensures))
      | else-claim-le-LIMIT w ↦ rw w.at-is (passed-long c.loop-claim.invariant c.loop-claim-test.true w.if-claim-le-LIMIT.false)
    ]

pub returns : goal.returns
returns c = passed-done c.loop-claim.invariant c.loop-claim-test.false
