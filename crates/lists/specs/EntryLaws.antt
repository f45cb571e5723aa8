-- Definitions for the laws of one entry: how it is read part by part, and what holds of one that was read; and that symbols are read where they are written. Assumes nothing.
use Rattle.std.proofs.Math.Path.{◌≡◌}
use mathlib.Core.List.{List}
use Rattle.std.specs.Prelude.{ℕ, ◌+◌, ◌≤◌, ◌<◌, length, get_or}
use Rattle.book.specs.Book.{read, row}
use Rattle.lists.specs.Entry.{symbol_row, part}
use Rattle.lists.specs.declared.Entry.{Entry}

-- ---- symbols that were read: 'from 1 to T - 1, one a byte', and so a part of the bytes
pub record Symbols (t : ℕ) (bytes : List ℕ) (start len : ℕ) : Type 0 where
  pub row : symbol_row t bytes start len ≡ read (part bytes start len) (start + len)
  pub within : start + len ≤ length bytes
  pub symbol : (i : ℕ) → i < len → (1 ≤ get_or (part bytes start len) i 0) × (get_or (part bytes start len) i 0 < t)

-- ---- the sentence of an entry that was read
pub record Spelled (t : ℕ) (bytes : List ℕ) (e : Entry) : Type 0 where
  pub symbols : Symbols t bytes e.start e.len
  pub short : e.len ≤ 1000
  pub below : e.lookahead < t
