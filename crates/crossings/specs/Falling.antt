-- Tables whose cells only fall, lowered in passes until one lowers none. Assumes nothing.
use Rattle.std.specs.Prelude.{List, ◌≡◌, ℕ, ◌+◌, ◌≤◌, ◌<◌, get_or, set}
use Rattle.layers.specs.Total.{total}

-- v is stored in cell k, if it is less: how many cells were lowered, and the cells afterwards
pub data Stored (k v : ℕ) (old : List ℕ) : ℕ → List ℕ → Type 0 where
  kept : get_or old k 0 ≤ v → Stored k v old 0 old
  stored : v < get_or old k 0 → Stored k v old 1 (set old k v)

-- the sum of the cells falls by n at least, and where n is 0 none was lowered
pub record Fallen (n : ℕ) (old new : List ℕ) : Type 0 where
  pub sum : total new + n ≤ total old
  pub same : n ≡ 0 → new ≡ old

-- a pass that keeps K from the table before it to the table after it; D is what holds where none was lowered
pub record Pass (K : List ℕ → List ℕ → Type 0) (D : List ℕ → Type 0) (n : ℕ) (old new : List ℕ) : Type 0 where
  pub keeps : K old new
  pub fallen : Fallen n old new
  pub done : n ≡ 0 → D new

-- passes that keep K lowered cells, or none
pub record Sunk (K : List ℕ → List ℕ → Type 0) (old new : List ℕ) : Type 0 where
  pub keeps : K old new
  pub sum : total new ≤ total old

-- .. in each of the turns below i
abbrev pub Each : (ℕ → List ℕ → Type 0) → ℕ → List ℕ → Type 0
Each D i table = (j : ℕ) → j < i → D j table
