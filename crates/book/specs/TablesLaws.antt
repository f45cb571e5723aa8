-- Definitions for the laws of the tables: what holds of every valid list of cells, and of the tables that it holds. Assumes nothing.
use Rattle.std.specs.Prelude.{Ok, List, ◌≡◌, ℕ, suc, ◌+◌, ◌*◌, ◌≤◌, ◌<◌, length}
use Rattle.book.specs.Book.{read, of_cells, checked}
use Rattle.book.specs.RangeLaws.{Small, body_length}
use Rattle.book.specs.Tables.{Tables, sizes_of}
use Rattle.book.specs.declared.Action.TheVariants.{Shift, Reduce}
use Rattle.book.specs.declared.Sizes.{Sizes}

-- `check` finds the cells valid, of the sizes d
abbrev pub Accepted : Sizes → List ℕ → Type 0
Accepted d cells = checked (of_cells cells) ≡ Ok d

-- they hold a book
pub record IsBook (d : Sizes) (cells : List ℕ) : Type 0 where
  pub book : of_cells cells ≡ read cells (length cells)
  pub sizes : d ≡ sizes_of cells
  pub small : Small d
  pub count : length cells ≡ 5 + body_length d

-- .. in form 1, the layout out of which the tables are read
pub record Holds (d : Sizes) (cells : List ℕ) : Type 0 where
  pub book : of_cells cells ≡ read cells (length cells)
  pub sizes : d ≡ sizes_of cells
  pub small : Small d
  pub count : length cells ≡ 5 + body_length d
  pub form : d.form ≡ 1

-- where the cells of the action of state q under the terminal a, and of its goto under the nonterminal X, stand in form 1
abbrev pub action_at : Sizes → ℕ → ℕ → ℕ
action_at d q a = 5 + 2 * d.p + (q * d.t + a)

abbrev pub goto_at : Sizes → ℕ → ℕ → ℕ
goto_at d q X = 5 + 2 * d.p + d.s * d.t + (q * d.n + X)

-- ---- each number of the tables is in its range
pub record InRange (B : Tables) : Type 0 where
  pub start : 0 < B.states
  pub end_mark : 0 < B.terminals
  pub shifts : (q a s : ℕ) → B.act q a ≡ Shift s → (q < B.states) × (1 ≤ a) × (a < B.terminals) × (s < B.states)
  pub reduces : (q a p : ℕ) → B.act q a ≡ Reduce p → (q < B.states) × (a < B.terminals) × (B.lhs p < B.nonterminals) × (B.len p ≤ 32)
  pub gotos : (q X g : ℕ) → B.goto q X ≡ suc g → (q < B.states) × (X < B.nonterminals) × (g < B.states)
