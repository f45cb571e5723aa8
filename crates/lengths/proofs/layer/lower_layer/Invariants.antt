use mathlib.Core.Path.{◌≡◌}
use lib.ListN.{length}
use Rattle.book.specs.Tables.{tables_of}
use Rattle.walk.specs.Scale.{plain}
use Rattle.layers.specs.Layer.{entry_in, value_in}
use Rattle.layers.specs.States.{listed_in}
use Rattle.layers.specs.Step.{TableStep, Upto}
use Rattle.lengths.specs.Lengths.{LayerEnding, Turn}
use Rattle.lengths.proofs.layer.lower_layer.Given as goal

abbrev pub invariant-loop-i : goal.invariant-loop-i
invariant-loop-i l = (length l.to ≡ 4096) × TableStep plain (Upto (λ j. Upto (Turn (LayerEnding plain l.missing (tables_of l.cells) l.m (value_in plain l.values l.flags)) (listed_in l.flags j)) l.d.t) l.i) (entry_in l.initial.to) (entry_in l.to)
