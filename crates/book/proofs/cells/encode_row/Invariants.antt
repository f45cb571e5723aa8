use Prim.Native.Nat.{◌-◌, ◌≤◌}
use mathlib.Core.Path.{◌≡◌}
use lib.ListN.{length}
use Rattle.book.specs.BytesLaws.{Encoded}
use Rattle.book.proofs.cells.encode_row.Given as goal

abbrev pub invariant-loop-cell : goal.invariant-loop-cell
invariant-loop-cell l = (l.cell-index ≤ length l.cells) × (length l.bytes ≡ length l.initial.bytes) × Encoded l.cells l.initial.bytes l.bytes l.cell-index l.at
