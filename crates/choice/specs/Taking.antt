-- The machine's stack in cells, bottom first, and what taking in a symbol makes of it. Assumes nothing.
use Rattle.std.specs.Prelude.{List, ◌∷◌, reverse, ◌≡◌, ℕ, ◌+◌, ◌≤◌, ◌<◌, length, get_or, take}
use Rattle.book.specs.Tables.{Tables}
use Rattle.machine.specs.Machine.{Steps}

-- the first depth cells are states, at least one
pub record Stacked (s : ℕ) (cells : List ℕ) (depth : ℕ) : Type 0 where
  pub some : 1 ≤ depth
  pub states : (k : ℕ) → k < depth → get_or cells k 0 < s

-- the machine without limits has shifted x, whatever follows
pub record Taken (B : Tables) (x : ℕ) (old : List ℕ) (depth : ℕ) (new : List ℕ) (r : ℕ) : Type 0 where
  pub stacked : Stacked B.states new r
  pub most : r ≤ depth + 128
  pub size : length new ≡ length old
  pub run : (v : List ℕ) → Steps B (reverse (take depth old)) (x ∷ v) (reverse (take r new)) v
