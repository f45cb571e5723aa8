-- What the sentences of all pairs are, and what the call leaves. Assumes nothing.
use Rattle.number.specs.declared.cause.Cause.{Cause}
use Rattle.number.specs.declared.cause.Refusal.{Refusal}
use Rattle.std.specs.Prelude.{Result, Ok, Err, Bool, true, false, List, [], ◌∷◌, ◌++◌, map, length, get_or, ◌≡◌, ℕ, ◌+◌, ◌*◌, ◌<◌, ltb}
use Rattle.number.specs.Lent.{over}
use Rattle.book.specs.{Book.of_cells, Book.checked, Book.bytes_of, Call.admits, Call.Concludes, Tables.Tables, Tables.tables_of, Tables.rank_of}
use Rattle.book.specs.declared.{Sizes.Sizes}
use Rattle.walk.specs.{Answer.Outcome, Answer.AnswerAs, Scale.plain}
use Rattle.work.specs.Work.{work_cells, cleared}

-- the refusals after the book's: those of the map, and then 12 'if fewer than S × T × 1,002 bytes are lent'
unfoldable pub sentences_refusals : ℕ → ℕ → ℕ → Sizes → List (Bool × Cause × ℕ)
sentences_refusals work map bytes d =
    (ltb work (work_cells d), Cause.Room, 0)
    ∷ (ltb map (d.s * d.t), Cause.Output, 0)
    ∷ (ltb bytes (d.s * d.t * 1002), Cause.Output, 0)
    ∷ []

-- the map's cell of an answer: 'the least length, 1,001 for long, 1,002 for unreached'
abbrev pub cell_of : Outcome → ℕ
cell_of Outcome.Unreached = 1002
cell_of Outcome.Long = 1001
cell_of (Outcome.Sentence w) = length w

-- 'for each pair of at most 1,000 its length and symbols, as a certificate has them': numbers as in a book
abbrev pub bytes_for : Outcome → List ℕ
bytes_for Outcome.Unreached = []
bytes_for Outcome.Long = []
bytes_for (Outcome.Sentence w) = bytes_of (length w ∷ w)

unfoldable pub sentence_bytes : List Outcome → List ℕ
sentence_bytes [] = []
sentence_bytes (o ∷ os) = bytes_for o ++ sentence_bytes os

-- 'in the map's order', 'by state, then terminal': the right answer of each pair, where the terminals have these ranks; of the words that reach the
-- pair, or of those with which its reduction breaks
pub record Answers (breaks : Bool) (rank : ℕ → ℕ) (B : Tables) (states terminals : ℕ) (os : List Outcome) : Type 0 where
  pub size : length os ≡ states * terminals
  pub right : (s z : ℕ) → s < states → z < terminals → AnswerAs breaks plain rank B s z (get_or os (s * terminals + z) Outcome.Unreached)

abbrev pub SentencesAs : Bool → List ℕ → List ℕ → List ℕ → List ℕ → Result ℕ Refusal × (List ℕ × (List ℕ × List ℕ)) → Type 0
SentencesAs breaks cells work lent bytes =
    Concludes (admits (checked (of_cells cells)) (sentences_refusals (length work) (length lent) (length bytes))) Err (work, (lent, bytes))
    (λ d. Answers breaks (rank_of cells) (tables_of cells) d.s d.t)
    (λ d os. (Ok (length (sentence_bytes os)), (cleared d work, (over (map cell_of os) lent, over (sentence_bytes os) bytes))))

-- the map and the sentences that `find` answers
abbrev pub Sentences : List ℕ → List ℕ → List ℕ → List ℕ → Result ℕ Refusal × (List ℕ × (List ℕ × List ℕ)) → Type 0
Sentences = SentencesAs false

-- those that `find_break` answers, and their lengths as in a map
abbrev pub BreakSentences : List ℕ → List ℕ → List ℕ → List ℕ → Result ℕ Refusal × (List ℕ × (List ℕ × List ℕ)) → Type 0
BreakSentences = SentencesAs true
