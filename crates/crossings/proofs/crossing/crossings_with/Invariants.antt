use mathlib.Core.Path.{◌≡◌}
use Prim.Native.Nat.{◌+◌, min}
use Rattle.book.specs.Tables.{tables_of}
use Rattle.walk.specs.Scale.{plain}
use Rattle.walk.specs.Claims.{Closed}
use Rattle.layers.specs.Layer.{Scratch}
use Rattle.layers.specs.Crossing.{room, claim_in}
use Rattle.crossings.specs.Crossings.{Beyond}
use Rattle.layers.specs.Total.{total}
use Rattle.crossings.specs.Pass.{SoundTable}
use Rattle.crossings.proofs.crossing.crossings_with.Given as goal

abbrev pub invariant-loop-lowered : goal.invariant-loop-lowered
invariant-loop-lowered l = SoundTable plain l.d l.cells l.table × Beyond (room l.d) l.initial.table l.table × (l.lowered ≡ 0 → Closed plain (tables_of l.cells) (claim_in l.d l.table)) × Scratch l.values l.next

abbrev pub decreases-loop-lowered : goal.decreases-loop-lowered
decreases-loop-lowered l = total l.table + min l.lowered 1
