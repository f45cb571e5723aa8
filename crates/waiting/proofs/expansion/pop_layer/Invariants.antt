use Prim.Native.Nat.{◌-◌}
use lib.ListN.{length}
use mathlib.Core.Path.{◌≡◌}
use Rattle.book.specs.Tables.{tables_of}
use Rattle.walk.specs.Scale.{plain}
use Rattle.layers.specs.Layer.{value_in}
use Rattle.layers.specs.States.{listed_in}
use Rattle.layers.specs.Step.{TableStep, Upto}
use Rattle.waiting.specs.Waiting.{event_in, ReducesState}
use Rattle.waiting.proofs.expansion.pop_layer.Given as goal

abbrev pub invariant-loop-i : goal.invariant-loop-i
invariant-loop-i l = (length l.events ≡ 33824) × TableStep plain (Upto (λ j. ReducesState plain l.d (tables_of l.cells) l.at l.m l.r l.v (value_in plain l.values l.on) (listed_in l.on j)) l.i) (event_in plain l.initial.events) (event_in plain l.events)
