use mathlib.Core.Path.{◌≡◌}
use Rattle.book.specs.Tables.{tables_of}
use Rattle.walk.specs.Scale.{plain}
use Rattle.approach.specs.Approach.{without_rows}
use Rattle.approach.proofs.weights.without_gotos.Given as goal

abbrev pub invariant-loop-q : goal.invariant-loop-q
invariant-loop-q l = l.layer ≡ without_rows plain (tables_of l.cells) l.x l.initial.layer l.q
