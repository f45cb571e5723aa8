use mathlib.Core.Path.{◌≡◌}
use Rattle.walk.specs.Scale.{plain}
use Rattle.layers.specs.Step.{relaxed}
use Rattle.layers.proofs.row.relax.Given as goal

abbrev pub invariant-loop-z : goal.invariant-loop-z
invariant-loop-z l = l.values ≡ relaxed plain l.initial.values l.row l.table l.start l.v l.z
