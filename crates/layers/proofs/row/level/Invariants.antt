use mathlib.Core.Path.{◌≡◌}
use lib.ListN.{length}
use Rattle.layers.specs.Layer.{entry_in}
use Rattle.layers.specs.Step.{TableStep, Upto, Level}
use Rattle.walk.specs.Scale.{plain}
use Rattle.layers.proofs.row.level.Given as goal

abbrev pub invariant-loop-z : goal.invariant-loop-z
invariant-loop-z l = (length l.values ≡ 4096) × TableStep plain (Upto (Level l.g l.v) l.z) (entry_in l.initial.values) (entry_in l.values)
