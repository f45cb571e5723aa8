-- Definitions for the laws of the call that checks a certificate: at most one answer is right, and the two theorems for it. Assumes nothing.
use Rattle.std.specs.Prelude.{List, ◌≡◌, ℕ, length}
use Rattle.book.specs.Tables.{tables_of}
use Rattle.book.specs.TablesLaws.{Accepted}
use Rattle.book.specs.declared.Sizes.{Sizes}
use Rattle.certificate.specs.Certificate.{crossing_count, pair_count}
use Rattle.certificate.specs.Sentences.{spelled, sentences_in}

-- ---- what is admitted: a book, rows of the right sizes, and well-written sentences
pub record Admission (cells crossings pairs bytes : List ℕ) (ws : List (List ℕ)) (end : ℕ) : Type 0 where
  pub d : Sizes
  pub book : Accepted d cells
  pub crossing-cells : length crossings ≡ crossing_count (tables_of cells)
  pub pair-cells : length pairs ≡ pair_count (tables_of cells)
  pub written : sentences_in d.t bytes pairs ≡ spelled ws end
