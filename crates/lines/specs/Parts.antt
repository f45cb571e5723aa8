-- What the functions that put the parts of a line, and count the parts of a header, promise. Assumes nothing.
use Rattle.std.specs.Prelude.{Bool, true, cond, ◌||◌, List, [], ◌∷◌, map, ◌≡◌, ℕ, ◌≤◌, length, take}
use Rattle.book.specs.Tables.{Tables, tables_of}
use Rattle.walk.specs.Answer.{Outcome}
use Rattle.walk.specs.Scale.{plain}
use Rattle.failing.specs.Failing.{is_error, Decides}
use Rattle.failing.specs.Tests.{has_cost}
use Rattle.finder.specs.declared.Found.{Found}
use Rattle.finder.specs.declared.Found.TheVariants.{Unreached, Long, Sentence}
use Rattle.text.specs.Decimal.{decimal}
use Rattle.lines.specs.Line.{ascii, pair_line, HasLine, RightIn}
use Rattle.text.specs.Put.{Put}

-- whether a pair has a line, by the costs of breaks
abbrev pub listed_in : List ℕ → List ℕ → ℕ → ℕ → Bool
listed_in cells broken s z = is_error ((tables_of cells).act s z) || has_cost broken s z

-- the words of an answer whose sentence stands at the front of a buffer
abbrev pub words : Found → List ℕ → List (List ℕ)
words Unreached buffer = ascii "unreached" ∷ []
words Long buffer = ascii "long" ∷ []
words (Sentence n) buffer = decimal n ∷ map decimal (take n buffer)

abbrev pub Fitting : Found → List ℕ → Type 0
Fitting Unreached buffer = Unit {0}
Fitting Long buffer = Unit {0}
Fitting (Sentence n) buffer = (n ≤ plain.limit) × (n ≤ length buffer)

-- the line of one action, where it has one
pub record ActionListed (rank : ℕ → ℕ) (B : Tables) (s z : ℕ) (lent : List ℕ) (at : ℕ) (left : List ℕ) (next : ℕ) : Type 0 where
  pub listed : Bool
  pub decides : Decides listed (HasLine B s z)
  pub outcome : Outcome
  pub right : listed ≡ true → RightIn rank B s z outcome
  pub put : Put (cond listed (pair_line s z outcome) []) lent at left next
