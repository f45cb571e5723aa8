use Prim.Native.Nat.{◌-◌}
use Rattle.book.specs.Tables.{tables_of}
use Rattle.walk.specs.Scale.{plain}
use Rattle.layers.specs.Layer.{Scratch}
use Rattle.layers.specs.Crossing.{claim_in}
use Rattle.crossings.specs.Falling.{Pass, Each}
use Rattle.crossings.specs.Pass.{ClosedAt, TableKept}
use Rattle.crossings.proofs.crossing.pass.Given as goal

abbrev pub invariant-loop-q : goal.invariant-loop-q
invariant-loop-q l = Pass (TableKept plain l.d l.cells) (Each (λ k. Each (λ j u. ClosedAt plain (tables_of l.cells) (l.d.s - 1 - k) j (claim_in l.d u)) l.d.t) (l.d.s - l.q)) l.n l.initial.table l.table × Scratch l.values l.next
