-- Definitions for the laws of a loop that passes entries up to one of a given index. Assumes nothing.
use Rattle.std.specs.Prelude.{Option, ◌≡◌, List, ℕ}
use Rattle.lists.specs.List.{entry_of}
use Rattle.lists.specs.ReadingLaws.{EntriesHeld}
use Rattle.lists.specs.declared.{Entry.Entry, Rest.Rest}

-- entry k of the rest of a list
pub record EntryPicked (bytes : List ℕ) (first : Rest) (k : ℕ) (r : Option Entry) : Type 0 where
  pub is : (es : List Entry) → EntriesHeld bytes first es → r ≡ entry_of es k
