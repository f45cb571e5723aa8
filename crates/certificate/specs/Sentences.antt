-- The sentences of a certificate: which there are, and what reading them gives. Assumes nothing.
use Rattle.number.specs.declared.cause.Cause.{Cause}
use Rattle.number.specs.Number.{refused_at, Number}
use Rattle.std.specs.Prelude.{Ok, Err, cond, List, [], ◌∷◌, length, ℕ, ltb, leb}
use Rattle.number.specs.{Number.number_at, declared.cause.Refusal.Refusal}
use Rattle.book.specs.Book.{Row, admitted}
use Rattle.lists.specs.Entry.{length_fault, symbol_row}
use Rattle.walk.specs.Scale.{plain}

-- the length was read
abbrev pub after_length : ℕ → List ℕ → Number → Row
after_length t bytes (Err r) = Row.refused r
after_length t bytes (Ok (len, next)) = symbol_row t bytes next.at len

-- 'a length and symbols', 'Sentences are written and refused as in a list': an entry without its lookahead, each number by 1, 2, its range, and
-- so '8 before 7'. The symbols of the sentence at an offset of the bytes, with the offset after it; or the refusal
unfoldable pub sentence_at : ℕ → List ℕ → ℕ → Row
sentence_at t bytes at = after_length t bytes (admitted length_fault at (number_at bytes at))

-- what there is for a pair: a sentence where it is 'claimed at 1,000 or less', else nothing, which leaves it the empty one
abbrev pub claimed_at : ℕ → List ℕ → ℕ → ℕ → Row
claimed_at t bytes claim at = cond (leb claim plain.limit) (sentence_at t bytes at) (Row.read [] at)

-- the sentences of pairs in order, one for each pair, with the offset after them; or the first refusal
pub data Spelled : Type 0 where
  spelled : List (List ℕ) → ℕ → Spelled
  refused : Refusal → Spelled

abbrev pub before : List ℕ → Spelled → Spelled
before w (spelled ws at) = spelled (w ∷ ws) at
before w (refused r) = refused r

-- a sentence, and those that go on after it
abbrev pub followed : Row → (ℕ → Spelled) → Spelled
followed (Row.refused r) rest = refused r
followed (Row.read w next) rest = before w (rest next)

-- 'in the map's order': the claims of the pairs, from an offset on
unfoldable pub sentences_at : ℕ → List ℕ → List ℕ → ℕ → Spelled
sentences_at t bytes [] at = spelled [] at
sentences_at t bytes (claim ∷ claims) at = followed (claimed_at t bytes claim at) (λ next. sentences_at t bytes claims next)

-- 'nothing after': '6 something follows the last number'
abbrev pub closed : ℕ → Spelled → Spelled
closed end (refused r) = refused r
closed end (spelled ws at) = cond (ltb at end) (refused (refused_at Cause.Surplus at)) (spelled ws at)

-- 'It also has, in the map's order, a length and symbols for each pair claimed at 1,000 or less'
unfoldable pub sentences_in : ℕ → List ℕ → List ℕ → Spelled
sentences_in t bytes claims = closed (length bytes) (sentences_at t bytes claims 0)
