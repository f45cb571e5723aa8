-- The sentences of all pairs are those of a certificate with their lengths for claims. Assumes nothing.
use Rattle.std.specs.Prelude.{Bool, List, [], ◌∷◌, map, ◌≡◌, refl, ℕ, suc, ◌+◌, ◌*◌, ◌/◌, ◌%◌, ◌≤◌, ◌<◌, length, get_or}
use Rattle.std.proofs.Common.{arith, le-leb}
use Rattle.book.specs.IndexLaws.{index-split}
use Rattle.book.specs.Tables.{Tables}
use Rattle.walk.specs.Answer.{Outcome, Unreached, Long, Sentence, Best, WordsOf}
use Rattle.walk.specs.Scale.{plain}
use Rattle.walk.proofs.ShortestLaws.{cost-length}
use Rattle.certificate.specs.Written.{written_sentences}
use Rattle.finder.specs.Finder.{sentence_of}
use Rattle.sentences.specs.Sentences.{cell_of, sentence_bytes, Answers}

abbrev Short : Outcome → Type 0
Short Unreached = Unit {0}
Short Long = Unit {0}
Short (Sentence w) = length w ≤ 1000

best-short : (rank : ℕ → ℕ) (P : List ℕ → Type 0) (o : Outcome) → Best plain rank P o → Short o
best-short rank P Unreached a = tt
best-short rank P Long a = tt
best-short rank P (Sentence w) a = omega (arith, a.1, cost-length w)

written_same : (os : List Outcome) → ((i : ℕ) → i < length os → Short (get_or os i Unreached)) → sentence_bytes os ≡ written_sentences (map cell_of os) (map sentence_of os)
unfolding sentence_bytes written_sentences
written_same [] h = refl
written_same (Unreached ∷ os) h = written_same os (λ i l. h (suc i) (omega arith))
written_same (Long ∷ os) h = written_same os (λ i l. h (suc i) (omega arith))
written_same (Sentence w ∷ os) h = rw (le-leb (length w) 1000 (h 0 (omega arith)), written_same os (λ i l. h (suc i) (omega arith)))

-- 'its length and symbols, as a certificate has them'
pub sentences-certificate : {breaks : Bool} {rank : ℕ → ℕ} {B : Tables} {states terminals : ℕ} {os : List Outcome} → Answers breaks rank B states terminals os
    → sentence_bytes os ≡ written_sentences (map cell_of os) (map sentence_of os)
sentences-certificate {breaks} {rank} {B} {states} {terminals} {os} x = written_same os (λ i l.
    let at = index-split states terminals i (omega (arith, x.size)) in
    rw at.same at (best-short rank (WordsOf breaks B (i / terminals) (i % terminals)) (get_or os (i / terminals * terminals + i % terminals) Unreached) (x.right _ _ at.high at.low)))
