-- How the sentences of a certificate are written. Assumes nothing.
use Rattle.std.specs.Prelude.{cond, List, [], ◌∷◌, ◌++◌, length, ℕ, ◌≤◌, ◌<◌, leb}
use Rattle.book.specs.{Book.bytes_of, Tables.Tables}
use Rattle.machine.specs.Machine.{Terminals}
use Rattle.walk.specs.Scale.{plain}

-- 'a length and symbols', numbers as in a book; nothing for a pair that has no sentence
abbrev pub written_for : ℕ → List ℕ → List ℕ
written_for claim w = cond (leb claim plain.limit) (bytes_of (length w ∷ w)) []

-- the bytes of the sentences of the pairs with these claims
unfoldable pub written_sentences : List ℕ → List (List ℕ) → List ℕ
written_sentences [] ws = []
written_sentences (claim ∷ claims) [] = []
written_sentences (claim ∷ claims) (w ∷ ws) = written_for claim w ++ written_sentences claims ws

-- sentences that can be written: one for each pair claimed at 1,000 or less, of 'up to 1,000 symbols from 1 to T - 1', and the empty one for
-- the others
pub data Writable (B : Tables) : List ℕ → List (List ℕ) → Type 0 where
  none : Writable B [] []
  some : {claim : ℕ} {claims w : List ℕ} {ws : List (List ℕ)} → claim ≤ plain.limit → length w ≤ plain.limit → Terminals B w → Writable B claims ws
      → Writable B (claim ∷ claims) (w ∷ ws)
  skip : {claim : ℕ} {claims : List ℕ} {ws : List (List ℕ)} → plain.limit < claim → Writable B claims ws → Writable B (claim ∷ claims) ([] ∷ ws)
