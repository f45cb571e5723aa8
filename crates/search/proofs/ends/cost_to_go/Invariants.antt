use mathlib.Core.List.{reverse}
use mathlib.Core.Path.{◌≡◌}
use Prim.Native.Nat.{◌-◌}
use lib.ListN.{take}
use Rattle.book.specs.Tables.{tables_of}
use Rattle.walk.specs.Ends.{to_go}
use Rattle.layers.specs.Layer.{entry_in, layer_in}
use Rattle.search.proofs.ends.cost_to_go.Given as goal

abbrev pub invariant-loop-m : goal.invariant-loop-m
invariant-loop-m l = (l.cost ≡ to_go (tables_of l.cells) l.left l.len (entry_in l.togo) (layer_in l.due) l.m (reverse (take l.kept l.stack)) l.g l.c)
