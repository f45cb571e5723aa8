use mathlib.Core.Path.{◌≡◌}
use Prim.Native.Nat.{◌+◌, min}
use lib.ListN.{length}
use Rattle.book.specs.Tables.{tables_of}
use Rattle.walk.specs.Scale.{plain}
use Rattle.layers.specs.Crossing.{claim_in}
use Rattle.layers.specs.Total.{total}
use Rattle.distances.specs.Pass.{Arrived}
use Rattle.distances.specs.StartLaws.{DistancesSettled}
use Rattle.distances.proofs.start.from_start.Given as goal

abbrev pub invariant-loop-n : goal.invariant-loop-n
invariant-loop-n l = (length l.next ≡ 4096) × Arrived plain (tables_of l.cells) (claim_in l.d l.table) l.dist × (l.n ≡ 0 → DistancesSettled plain (tables_of l.cells) (claim_in l.d l.table) l.dist)

abbrev pub decreases-loop-n : goal.decreases-loop-n
decreases-loop-n l = total l.dist + min l.n 1
