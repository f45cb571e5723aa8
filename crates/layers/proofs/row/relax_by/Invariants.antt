use mathlib.Core.Path.{◌≡◌}
use lib.ListN.{length}
use Rattle.walk.specs.Scale.{plain}
use Rattle.layers.specs.Layer.{entry_in}
use Rattle.layers.specs.Step.{TableStep, RelaxedBy}
use Rattle.layers.proofs.row.relax_by.Given as goal

abbrev pub invariant-loop-k : goal.invariant-loop-k
invariant-loop-k l = (length l.values ≡ 4096) × TableStep plain (RelaxedBy plain l.g l.table l.start l.offsets l.costs l.t l.k) (entry_in l.initial.values) (entry_in l.values)
