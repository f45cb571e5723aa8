use Prim.Native.Nat.{◌-◌}
use Rattle.book.specs.Tables.{tables_of}
use Rattle.layers.specs.Crossing.{claim_in}
use Rattle.roads.specs.LeavingLaws.{FlagsTo}
use Rattle.roads.proofs.leaving.live_rows.Given as goal

abbrev pub invariant-loop-k : goal.invariant-loop-k
invariant-loop-k l = FlagsTo l.d (tables_of l.cells) (claim_in l.d l.table) l.k l.rows
