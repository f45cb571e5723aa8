-- Definitions for the laws of what is taken for each state: on what it depends, and that it is in state order where each state has at most one right entry. Assumes nothing.
use Rattle.std.specs.Prelude.{◌≡◌}
use mathlib.Core.List.{List, [], ◌∷◌}
use Prim.Native.Nat.{ℕ, suc, ◌≤◌}
use Rattle.book.specs.Tables.{Tables}
use Rattle.items.specs.Items.{Item}
use Rattle.course.specs.Course.{state_in}
use Rattle.course.specs.CourseLaws.{Right}

-- ---- entries that are right, each in a higher state than the one before it, from a state on
pub data Ascending (B : Tables) : ℕ → List Item → Type 0 where
  ended : {s : ℕ} → Ascending B s []
  above : {s : ℕ} {x : Item} {xs : List Item} → Right B x → s ≤ state_in B x → Ascending B (suc (state_in B x)) xs → Ascending B s (x ∷ xs)

-- ---- at most one entry, that is right and fails in the state
pub data Single (B : Tables) (s : ℕ) : List Item → Type 0 where
  none : Single B s []
  one : {x : Item} → Right B x → state_in B x ≡ s → Single B s (x ∷ [])
