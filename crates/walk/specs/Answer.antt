-- What the finder answers for one pair. `Shortest.antt` has it by lengths, and a law says that this is the same. Assumes nothing.
use Rattle.std.specs.Prelude.{Bool, true, false, List, ◌≢◌, ℕ, ◌≤◌, ◌<◌}
use Rattle.book.specs.Tables.{Tables}
use Rattle.machine.specs.Machine.{Reaches}
use Rattle.walk.specs.{Scale.Scale, Cost.cost, Order.Better, Breaks.Breaks}

-- 'For one pair the finder answers unreached, long or else a sentence'
pub data Outcome : Type 0 where
  Unreached Long : Outcome
  Sentence : List ℕ → Outcome

-- the right answer on a scale for a set P of words, for a pair those that reach it: 'unreached if no sequence, however long, reaches it, and
-- long if some sequence reaches it but none of at most 1,000 symbols'; else 'of the shortest that reach the pair, the earliest in order'
abbrev pub Best : Scale → (ℕ → ℕ) → (List ℕ → Type 0) → Outcome → Type 0
Best σ rank P Unreached = (w : List ℕ) → ¬ P w
Best σ rank P Long = ((w : List ℕ) × P w) × ((w : List ℕ) → P w → σ.limit < cost σ w)
Best σ rank P (Sentence w) = P w × (cost σ w ≤ σ.limit) × ((v : List ℕ) → P v → v ≢ w → Better σ rank w v)

abbrev pub Answer : Scale → (ℕ → ℕ) → Tables → ℕ → ℕ → Outcome → Type 0
Answer σ rank B s z = Best σ rank (λ w. Reaches B w z s)

-- for a pair with a reduce action, by request 5: 'the first and shortest such sentence, or `long` if all are over 1,000 symbols', of those with which
-- the reduction breaks there; Unreached is none
abbrev pub AnswerBreak : Scale → (ℕ → ℕ) → Tables → ℕ → ℕ → Outcome → Type 0
AnswerBreak σ rank B s z = Best σ rank (λ w. Breaks B w z s)

-- the one or the other: of the words that reach the pair, or of those with which its reduction breaks
abbrev pub WordsOf : Bool → Tables → ℕ → ℕ → List ℕ → Type 0
WordsOf false B s z w = Reaches B w z s
WordsOf true B s z w = Breaks B w z s

abbrev pub AnswerAs : Bool → Scale → (ℕ → ℕ) → Tables → ℕ → ℕ → Outcome → Type 0
AnswerAs breaks σ rank B s z = Best σ rank (WordsOf breaks B s z)
