use Prim.Native.Nat.{ℕ, ◌-◌}
use lib.ListN.{length}
use Rattle.book.specs.Tables.{tables_of}
use Rattle.walk.specs.Ends.{end_cost}
use Rattle.walk.specs.Scale.{plain}
use Rattle.layers.specs.Crossing.{claim_in}
use Rattle.layers.specs.Layer.{entry_in, layer_in}
use Rattle.waiting.specs.Waiting.{event_in}
use Rattle.search.specs.Settle.{SearchRoom}
use Rattle.search.specs.Search.{Descent}
use Rattle.search.proofs.descend.descend.Given as goal

abbrev pub invariant-loop-h : goal.invariant-loop-h
invariant-loop-h l = SearchRoom l.values l.next l.events l.done × ((a : ℕ) → Descent plain (tables_of l.cells) (claim_in l.d l.table) (end_cost (tables_of l.cells) l.left l.len (entry_in l.togo) (layer_in l.due)) l.stack a l.r (length l.stack - 1) (event_in plain l.initial.events) → Descent plain (tables_of l.cells) (claim_in l.d l.table) (end_cost (tables_of l.cells) l.left l.len (entry_in l.togo) (layer_in l.due)) l.stack a l.r (l.h - 1) (event_in plain l.events))
