use Prim.Native.Nat.{◌+◌, min}
use Rattle.walk.specs.Scale.{plain}
use Rattle.layers.specs.Layer.{Scratch}
use Rattle.layers.specs.Total.{total}
use Rattle.crossings.specs.Falling.{Sunk}
use Rattle.crossings.specs.Pass.{TableKept}
use Rattle.crossings.proofs.crossing.cross_short.Given as goal

abbrev pub invariant-loop-lowered : goal.invariant-loop-lowered
invariant-loop-lowered l = Scratch l.values l.next × Sunk (TableKept plain l.d l.cells) l.initial.table l.table

abbrev pub decreases-loop-lowered : goal.decreases-loop-lowered
decreases-loop-lowered l = total l.table + min l.lowered 1
