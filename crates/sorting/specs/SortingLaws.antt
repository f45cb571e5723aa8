-- Definitions for the laws of sorting: what the sorted list is, and on what it does not depend. Assumes nothing.
use Rattle.std.specs.Prelude.{true, List, [], ◌≡◌, ℕ}
use Rattle.book.specs.Tables.{tables_of}
use Rattle.lists.specs.List.{entries, list_in}
use Rattle.lists.specs.declared.Entry.{Entry}
use Rattle.items.specs.Items.{Item, items}
use Rattle.items.specs.Rearranged.{Rearranged}
use Rattle.course.specs.Course.{clean, course}

-- ---- the list that has entries in state order
pub record InOrder (cells : List ℕ) (xs : List Item) (bytes : List ℕ) : Type 0 where
  pub es : List Entry
  pub end : ℕ
  pub list : list_in cells bytes ≡ entries es end
  pub same : Rearranged xs (items bytes es)
  pub states : List ℕ
  pub faultless : course true (tables_of cells) 0 [] (items bytes es) ≡ clean states
