use mathlib.Core.List.{reverse}
use mathlib.Core.Path.{◌≡◌}
use Prim.Native.Nat.{◌-◌}
use lib.ListN.{length, take}
use Rattle.book.specs.Order.{place_in}
use Rattle.book.specs.Tables.{tables_of}
use Rattle.walk.specs.Choice.{Brings}
use Rattle.walk.specs.Goal.{Aim}
use Rattle.walk.specs.Scale.{plain}
use Rattle.search.specs.Settle.{SearchRoom}
use Rattle.choice.specs.Choosing.{Choosing}
use Rattle.choice.proofs.sentence.choose.Given as goal

abbrev pub invariant-loop-i : goal.invariant-loop-i
invariant-loop-i l = (length l.buffer ≡ length l.initial.buffer) × (length l.stack ≡ length l.initial.stack) × Choosing plain (place_in l.order) (tables_of l.cells) (Brings (tables_of l.cells) l.z (Aim (tables_of l.cells) l.breaks l.s l.z) (reverse (take l.initial.depth l.initial.stack))) (reverse (take l.initial.depth l.initial.stack)) l.n l.initial.buffer l.buffer l.stack l.depth l.i (l.n - l.i) × ((length l.costs ≡ 4096) × SearchRoom l.values l.next l.events l.done)
