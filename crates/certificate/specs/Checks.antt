-- What the call that checks a certificate answers, and what its two theorems speak of. Assumes nothing.
use Rattle.number.specs.declared.cause.Cause.{Cause}
use Rattle.std.specs.Prelude.{Result, Ok, Err, Bool, List, [], ◌∷◌, length, ◌≡◌, ℕ, ltb}
use Rattle.number.specs.declared.cause.Refusal.{Refusal}
use Rattle.book.specs.{Book.of_cells, Book.checked, Call.admits, Tables.Tables, Tables.tables_of, declared.Sizes.Sizes}
use Rattle.walk.specs.Map.{IsMap}
use Rattle.certificate.specs.Certificate.{crossing_count, pair_count, certificate_in, Fails, Judged, True}
use Rattle.certificate.specs.Sentences.{Spelled, spelled, refused, sentences_in}
use Rattle.certificate.specs.declared.Verdict.{Verdict}

-- 'rows that stop short or run on get 1 or 6 before that'; 'for 1 and 6, where the missing or surplus one begins': a row has so many cells and
-- should have count
abbrev pub row_refusals : ℕ → ℕ → List (Bool × Cause × ℕ) → List (Bool × Cause × ℕ)
row_refusals cells count more = (ltb cells count, Cause.Incomplete, cells) ∷ (ltb count cells, Cause.Surplus, count) ∷ more

-- those of the two rows after the book's: 'the first lent is checked first'
unfoldable pub certificate_refusals : Tables → ℕ → ℕ → List (Bool × Cause × ℕ)
certificate_refusals B crossings pairs = row_refusals crossings (crossing_count B) (row_refusals pairs (pair_count B) [])

-- then those of the sentences
abbrev pub spelled_in : Result Sizes Refusal → List ℕ → List ℕ → Spelled
spelled_in (Err r) pairs bytes = refused r
spelled_in (Ok d) pairs bytes = sentences_in d.t bytes pairs

unfoldable pub sentences_of : List ℕ → List ℕ → List ℕ → List ℕ → Spelled
sentences_of cells crossings pairs bytes =
    spelled_in (admits (checked (of_cells cells)) (λ d. certificate_refusals (tables_of cells) (length crossings) (length pairs))) pairs bytes

-- what `check_certificate` answers; no lent memory is written. 'every refusal comes before any other answer'
pub data Checks (cells crossings pairs bytes : List ℕ) : Result Verdict Refusal → Type 0 where
  refuses : (r : Refusal) → sentences_of cells crossings pairs bytes ≡ refused r → Checks cells crossings pairs bytes (Err r)
  judges : (sentences : List (List ℕ)) (end : ℕ) (v : Verdict) → sentences_of cells crossings pairs bytes ≡ spelled sentences end
      → Judged (Fails (tables_of cells) (certificate_in (tables_of cells) crossings pairs sentences)) v → Checks cells crossings pairs bytes (Ok v)

-- ---- what the two theorems speak of
-- 'What it accepts must be the true map', as the finder gives it, of a book that is not refused
pub record Mapped (cells pairs : List ℕ) : Type 0 where
  pub d : Sizes
  pub book : checked (of_cells cells) ≡ Ok d
  pub map : IsMap cells d pairs

-- 'A true certificate without long pairs' whose 'sentences reach within those limits', for a book that is not refused, as it is lent
pub record Certified (cells crossings pairs bytes : List ℕ) : Type 0 where
  pub d : Sizes
  pub book : checked (of_cells cells) ≡ Ok d
  pub crossing-cells : length crossings ≡ crossing_count (tables_of cells)
  pub pair-cells : length pairs ≡ pair_count (tables_of cells)
  pub sentences : List (List ℕ)
  pub end : ℕ
  pub written : sentences_in d.t bytes pairs ≡ spelled sentences end
  pub claims : True (tables_of cells) (certificate_in (tables_of cells) crossings pairs sentences)
