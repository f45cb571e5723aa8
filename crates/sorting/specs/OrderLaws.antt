-- Definitions for the laws of state order: it keeps the entries, has no fault where they had none, and is the one order that has none. Assumes nothing.
use mathlib.Core.List.{List, [], ◌∷◌}
use Prim.Native.Nat.{ℕ, ◌<◌}
use Rattle.book.specs.Tables.{Tables}
use Rattle.items.specs.Items.{Item}
use Rattle.course.specs.Course.{state_in}

-- ---- all entries fail in one of the first k states
pub data AllBelow (B : Tables) (k : ℕ) : List Item → Type 0 where
  none : AllBelow B k []
  more : {x : Item} {xs : List Item} → state_in B x < k → AllBelow B k xs → AllBelow B k (x ∷ xs)
