-- What the functions that put the sentences promise. Assumes nothing.
use Rattle.std.specs.Prelude.{Bool, List, [], ◌++◌, map, ◌≡◌, ℕ, ◌+◌, ◌/◌, ◌%◌, ◌<◌, length, take, get_or}
use Rattle.number.specs.Lent.{over}
use Rattle.number.specs.Number.{written}
use Rattle.book.specs.Call.{Tells}
use Rattle.book.specs.Tables.{Tables, tables_of}
use Rattle.book.specs.declared.Sizes.{Sizes}
use Rattle.walk.specs.Answer.{Outcome, Unreached, WordsOf, AnswerAs}
use Rattle.walk.specs.Cost.{Exact}
use Rattle.walk.specs.Scale.{plain}
use Rattle.layers.specs.Layer.{entry_in}
use Rattle.finder.specs.declared.Found.{Found}
use Rattle.text.specs.Put.{Put}
use Rattle.sentences.specs.Sentences.{cell_of, bytes_for, sentence_bytes, Answers}

-- the bytes of what was found, whose sentence stands at the front of a buffer
abbrev pub bytes_in : Found → List ℕ → List ℕ
bytes_in Found.Unreached buffer = []
bytes_in Found.Long buffer = []
bytes_in (Found.Sentence n) buffer = written n ++ take n buffer

-- each entry is the least cost of the words of its pair
pub record CostTable (breaks : Bool) (d : Sizes) (cells costs : List ℕ) : Type 0 where
  pub size : length costs ≡ 4096
  pub exact : (s z : ℕ) → s < d.s → z < d.t → Exact plain (WordsOf breaks (tables_of cells) s z) (entry_in costs s z)

-- the right answer of one pair, its cell and its bytes
pub record PairPut (breaks : Bool) (rank : ℕ → ℕ) (B : Tables) (s z cell : ℕ) (lent : List ℕ) (at : ℕ) (left : List ℕ) (next : ℕ) : Type 0 where
  pub outcome : Outcome
  pub right : AnswerAs breaks plain rank B s z outcome
  pub told : cell ≡ cell_of outcome
  pub put : Put (bytes_for outcome) lent at left next

-- those of the first n pairs
pub record PairsPut (breaks : Bool) (rank : ℕ → ℕ) (B : Tables) (t n : ℕ) (lent bytes filled left : List ℕ) (next : ℕ) : Type 0 where
  pub outcomes : List Outcome
  pub size : length outcomes ≡ n
  pub right : (i : ℕ) → i < n → AnswerAs breaks plain rank B (i / t) (i % t) (get_or outcomes i Unreached)
  pub cells : Put (map cell_of outcomes) lent 0 filled n
  pub put : Put (sentence_bytes outcomes) bytes 0 left next

-- all of them, with how many bytes they have
abbrev pub AllPut : Bool → (ℕ → ℕ) → Tables → ℕ → ℕ → List ℕ → List ℕ → ℕ → List ℕ × List ℕ → Type 0
AllPut breaks rank B states terminals lent bytes count left =
    Tells {Told = ℕ × (List ℕ × List ℕ)} (Answers breaks rank B states terminals)
    (λ os. (length (sentence_bytes os), (over (map cell_of os) lent, over (sentence_bytes os) bytes)))
    (count, left)
