use Prim.Native.Nat.{◌-◌}
use Rattle.book.specs.Tables.{tables_of}
use Rattle.layers.specs.Crossing.{claim_in}
use Rattle.layers.specs.Layer.{entry_in, layer_in}
use Rattle.search.specs.Settle.{SearchRoom}
use Rattle.choice.specs.Choice.{Completing}
use Rattle.choice.specs.ChoiceLaws.{PassedOver}
use Rattle.walk.specs.Ends.{end_cost}
use Rattle.walk.specs.Scale.{plain}
use Rattle.choice.proofs.lowest_symbol.lowest.Given as goal

abbrev pub invariant-loop-k : goal.invariant-loop-k
invariant-loop-k l = SearchRoom l.values l.next l.events l.done × PassedOver l.order (Completing plain (tables_of l.cells) (claim_in l.d l.table) (end_cost (tables_of l.cells) l.left l.len (entry_in l.togo) (layer_in l.due)) l.stack l.r) l.k
