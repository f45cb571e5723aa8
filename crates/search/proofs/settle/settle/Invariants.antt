use mathlib.Core.List.{reverse}
use lib.ListN.{take}
use Rattle.book.specs.Tables.{tables_of}
use Rattle.walk.specs.Scale.{plain}
use Rattle.walk.specs.Ends.{end_cost}
use Rattle.layers.specs.Crossing.{claim_in}
use Rattle.layers.specs.Layer.{entry_in, layer_in}
use Rattle.waiting.specs.Waiting.{event_in}
use Rattle.search.specs.Settle.{SearchRoom, NextWaiting, Follows}
use Rattle.layers.specs.Total.{total}
use Rattle.search.proofs.settle.settle.Given as goal

abbrev pub invariant-loop-i : goal.invariant-loop-i
invariant-loop-i l = SearchRoom l.values l.next l.events l.done × Follows plain (tables_of l.cells) (claim_in l.d l.table) (end_cost (tables_of l.cells) l.left l.len (entry_in l.togo) (layer_in l.due)) l.r l.q l.at (reverse (take l.kept l.stack)) (event_in plain l.initial.events) (event_in plain l.events) l.done × NextWaiting l.d.t l.at l.end (event_in plain l.events) l.done l.i

abbrev pub decreases-loop-i : goal.decreases-loop-i
decreases-loop-i l = total l.done
