-- Definitions for the laws of books that differ in no more than form and ranks, and of a book in its own form and back. Assumes nothing.
use Rattle.std.specs.Prelude.{List, ◌≡◌, ℕ}
use Rattle.book.specs.TablesLaws.{Accepted}
use Rattle.book.specs.declared.Sizes.{Sizes}
use Rattle.forms.specs.Forms.{in_form_1}

-- two books that are the same in form 1
pub record Alike (d e : Sizes) (cells other : List ℕ) : Type 0 where
  pub first : Accepted d cells
  pub second : Accepted e other
  pub plain : in_form_1 cells ≡ in_form_1 other
