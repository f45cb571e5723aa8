use Prim.Native.Nat.{◌-◌, ◌≤◌}
use mathlib.Core.Path.{◌≡◌}
use lib.ListN.{length, take}
use Rattle.book.specs.Book.{bytes_of}
use Rattle.book.proofs.cells.byte_count.Given as goal

abbrev pub invariant-loop-cell : goal.invariant-loop-cell
invariant-loop-cell l = (l.cell-index ≤ length l.cells) × (l.n ≡ length (bytes_of (take l.cell-index l.cells)))
