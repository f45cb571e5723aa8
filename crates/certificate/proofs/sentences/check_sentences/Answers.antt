-- `certificate::sentences::check_sentences` meets its contract: nothing may follow the sentences. Assumes nothing.
use Rattle.std.proofs.lemmas.Result.{err_from_is_err_and}
use Rattle.certificate.specs.SentencesLaws.{sentences-closing, closing-stops, closing-passes}
use Rattle.certificate.proofs.sentences.check_sentences.Goals as goal

pub returns-in_err-at : goal.returns-in_err-at
returns-in_err-at c =
    let p = err_from_is_err_and c.from_residual.result c.from_residual.ensures.1 in
    rw (p.1, p.2) (rw (sentences-closing, ← c.in_err-at.ensures))

pub returns-in_err-refuse_if : goal.returns-in_err-refuse_if
returns-in_err-refuse_if c =
    let p = err_from_is_err_and c.from_residual-in_err-refuse_if.result c.from_residual-in_err-refuse_if.ensures.1 in
    rw (p.1, p.2) (rw (sentences-closing, ← c.in_ok-at.ensures) (closing-stops _ _ c.in_err-refuse_if.ensures))

pub returns : goal.returns
returns c = rw (sentences-closing, ← c.in_ok-at.ensures) (closing-passes _ _ c.in_ok-refuse_if.ensures)
