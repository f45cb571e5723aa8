use mathlib.Core.Path.{◌≡◌}
use Prim.Native.Nat.{◌+◌, ◌≤◌}
use lib.ListN.{length}
use Rattle.pieces.specs.Pieces.{pieces_to, count_to}
use Rattle.pieces.proofs.pieces.measure.Given as goal

abbrev pub invariant-loop-s : goal.invariant-loop-s
invariant-loop-s l = (l.left + length (pieces_to l.first l.places l.second l.others l.s) ≡ l.room) × (l.count ≡ count_to l.places l.others l.s) × (l.count ≤ l.s)
