use Rattle.advance.specs.Round.{Rounds}
use Prim.Native.Nat.{◌-◌, ◌≤◌}
use Rattle.book.specs.Tables.{tables_of}
use Rattle.layers.specs.Crossing.{claim_in}
use Rattle.advance.proofs.distance.nearest.Given as goal

abbrev pub invariant-loop-n : goal.invariant-loop-n
invariant-loop-n l = (l.m ≤ 128) × Rounds (tables_of l.cells) (claim_in l.d l.table) l.a l.m l.n l.to

abbrev pub decreases-loop-n : goal.decreases-loop-n
decreases-loop-n l = 128 - l.m
