use Prim.Native.Nat.{◌-◌}
use Rattle.book.specs.Tables.{tables_of}
use Rattle.walk.specs.Scale.{plain}
use Rattle.layers.specs.Layer.{Scratch}
use Rattle.layers.specs.Crossing.{claim_in}
use Rattle.crossings.specs.Falling.{Pass, Each}
use Rattle.crossings.specs.Pass.{ClosedAt, TableKept}
use Rattle.crossings.proofs.crossing.cross_state.Given as goal

abbrev pub invariant-loop-a : goal.invariant-loop-a
invariant-loop-a l = Pass (TableKept plain l.d l.cells) (Each (λ j u. ClosedAt plain (tables_of l.cells) l.q j (claim_in l.d u)) l.a) l.n l.initial.table l.table × Scratch l.values l.next
