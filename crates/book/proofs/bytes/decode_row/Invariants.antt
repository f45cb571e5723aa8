use Prim.Native.Nat.{◌-◌, ◌≤◌}
use mathlib.Core.Path.{◌≡◌}
use lib.ListN.{length}
use Rattle.number.specs.Number.{number_at}
use Rattle.book.specs.BytesLaws.{Decoded}
use Rattle.book.proofs.bytes.decode_row.Given as goal

abbrev pub invariant-loop-i : goal.invariant-loop-i
invariant-loop-i l = (length l.cells ≡ length l.initial.cells) × Decoded (number_at l.bytes) l.n l.initial.cells l.cells l.i l.cursor.at
