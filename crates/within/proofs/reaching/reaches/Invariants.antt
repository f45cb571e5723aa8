use mathlib.Core.Path.{◌≡◌}
use lib.ListN.{length}
use Rattle.book.specs.Tables.{tables_of}
use Rattle.machine.specs.DrivingLaws.{Driving}
use Rattle.within.specs.Within.{brings}
use Rattle.within.proofs.reaching.reaches.Given as goal

abbrev pub invariant-loop-taken : goal.invariant-loop-taken
invariant-loop-taken l = (length l.stack ≡ length l.initial.stack) × Driving (brings (tables_of l.cells) l.z l.s) l.d.s l.sentence l.initial.stack l.stack l.depth l.taken
