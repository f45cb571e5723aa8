use Prim.Native.Nat.{◌-◌}
use lib.ListN.{length}
use mathlib.Core.Path.{◌≡◌}
use Rattle.book.specs.Tables.{tables_of}
use Rattle.walk.specs.Scale.{plain}
use Rattle.walk.specs.Sum.{plus}
use Rattle.layers.specs.Layer.{value_in}
use Rattle.layers.specs.Step.{TableStep, Upto}
use Rattle.waiting.specs.Waiting.{event_in, Reduces}
use Rattle.waiting.proofs.expansion.pop_state.Given as goal

abbrev pub invariant-loop-c : goal.invariant-loop-c
invariant-loop-c l = (length l.events ≡ 33824) × TableStep plain (Upto (λ z. Reduces (tables_of l.cells) l.at l.m l.r l.q z (plus plain l.v (value_in plain l.values l.on l.q z))) l.c) (event_in plain l.initial.events) (event_in plain l.events)
