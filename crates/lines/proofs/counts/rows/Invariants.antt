use mathlib.Core.Path.{◌≡◌}
use Rattle.failing.specs.Tests.{fails_in}
use Rattle.lines.specs.Counts.{pairs_of}
use Rattle.lines.specs.Parts.{listed_in}
use Rattle.lines.proofs.counts.rows.Given as goal

abbrev pub invariant-loop-q : goal.invariant-loop-q
invariant-loop-q l = (l.lines ≡ pairs_of (listed_in l.cells l.broken) l.d.t l.q) × (l.failing ≡ pairs_of (fails_in l.cells l.dist l.broken) l.d.t l.q)
