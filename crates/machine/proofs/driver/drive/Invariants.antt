use lib.ListN.{length}
use Rattle.machine.specs.Run.{runs}
use mathlib.Core.Path.{◌≡◌}
use Prim.Native.Nat.{◌-◌}
use Rattle.book.specs.Tables.{tables_of}
use Rattle.machine.specs.DrivingLaws.{Driving}
use Rattle.machine.proofs.driver.drive.Given as goal

abbrev pub invariant-loop-taken : goal.invariant-loop-taken
invariant-loop-taken l = (length l.stack ≡ length l.initial.stack) × Driving (runs (tables_of l.cells) l.z) l.d.s l.sentence l.initial.stack l.stack l.depth l.taken
