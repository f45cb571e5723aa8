use mathlib.Core.Path.{◌≡◌}
use Rattle.sets.specs.Set.{count_of}
use Rattle.failing.specs.Tests.{fails_in}
use Rattle.lines.specs.Parts.{listed_in}
use Rattle.lines.proofs.counts.row.Given as goal

abbrev pub invariant-loop-z : goal.invariant-loop-z
invariant-loop-z l = (l.lines ≡ count_of (listed_in l.cells l.broken l.q) l.z) × (l.failing ≡ count_of (fails_in l.cells l.dist l.broken l.q) l.z)
