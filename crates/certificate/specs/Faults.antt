-- What the parts of the check find in the rows of a certificate, by places in them. Assumes nothing.
use Rattle.std.specs.Prelude.{Bool, true, false, not, List, [], ◌⊎◌, ◌≡◌, ℕ, ◌+◌, ◌*◌, ◌≤◌, ◌<◌, ltb, eqb, length, get_or}
use Rattle.book.specs.Tables.{tables_of}
use Rattle.book.specs.TablesLaws.{Holds}
use Rattle.book.specs.declared.Sizes.{Sizes}
use Rattle.walk.specs.Scale.{plain, long, unreached}
use Rattle.layers.specs.Crossing.{room}
use Rattle.certificate.specs.Certificate.{Certificate, certificate_in, Fails, Judged}
use Rattle.certificate.specs.Search.{Before}
use Rattle.certificate.specs.Sentences.{Spelled, spelled, refused, sentences_in}
use Rattle.certificate.specs.Wrong.{Admitted}
use Rattle.certificate.specs.declared.Condition.{Condition}
use Rattle.certificate.specs.declared.Verdict.{Verdict}
use Rattle.certificate.specs.declared.Condition.TheVariants.{Range, Roads, Start, Transitions, Short, Sentences}

-- a claim that fails a condition by itself; of the first, third and fifth
abbrev pub fails_alone : Condition → ℕ → Bool
fails_alone Range claim = ltb (unreached plain) claim
fails_alone Roads claim = false
fails_alone Start claim = not (eqb claim 0)
fails_alone Transitions claim = false
fails_alone Short claim = eqb claim (long plain)
fails_alone Sentences claim = false

-- the claim at place k of a row does
pub record InRow (condition : Condition) (row : List ℕ) (k : ℕ) : Type 0 where
  pub inside : k < length row
  pub alone : fails_alone condition (get_or row k 0) ≡ true

-- the claim of index i does, in the two rows, the second counted on after the first
abbrev pub InRows : Condition → List ℕ → List ℕ → ℕ → Type 0
InRows condition crossings pairs i = InRow condition crossings i ⊎ ((k : ℕ) × (i ≡ length crossings + k) × InRow condition pairs k)

-- the sentences that were read
abbrev pub words_of : Spelled → List (List ℕ)
words_of (spelled ws end) = ws
words_of (refused r) = []

-- a certificate as it is lent, for a book in plain cells, with rows of the right sizes and sentences that were admitted
abbrev pub lent_in : Sizes → List ℕ → List ℕ → List ℕ → List ℕ → Certificate
lent_in d cells crossings pairs bytes = certificate_in (tables_of cells) crossings pairs (words_of (sentences_in d.t bytes pairs))

pub record Lent (d : Sizes) (cells crossings pairs bytes : List ℕ) : Type 0 where
  pub holds : Holds d cells
  pub crossing-cells : length crossings ≡ room d
  pub pair-cells : length pairs ≡ d.s * d.t
  pub written : Admitted d.t bytes pairs

-- the first n conditions hold of it; and a verdict on it is right
abbrev pub HoldTo : Sizes → List ℕ → List ℕ → List ℕ → List ℕ → ℕ → Type 0
HoldTo d cells crossings pairs bytes = Before (Fails (tables_of cells) (lent_in d cells crossings pairs bytes))

abbrev pub JudgedIn : Sizes → List ℕ → List ℕ → List ℕ → List ℕ → Verdict → Type 0
JudgedIn d cells crossings pairs bytes = Judged (Fails (tables_of cells) (lent_in d cells crossings pairs bytes))

-- a search over places below the top that found r: the condition fails first at the index base + r, or nowhere
pub record Searched (fails : ℕ → Type 0) (base top r : ℕ) : Type 0 where
  pub here : r < top → fails (base + r)
  pub least : r < top → (i : ℕ) → fails i → base + r ≤ i
  pub none : top ≤ r → (i : ℕ) → ¬ fails i
