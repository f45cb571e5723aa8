use mathlib.Core.Path.{◌≡◌}
use lib.ListN.{length}
use Rattle.book.specs.Tables.{tables_of}
use Rattle.walk.specs.Scale.{plain}
use Rattle.layers.specs.Crossing.{claim_in}
use Rattle.layers.specs.Layer.{Scratch, entry_in}
use Rattle.layers.specs.Step.{TableStep, Upto}
use Rattle.lengths.specs.Starts.{FarBreak}
use Rattle.lengths.proofs.lengths.all_far_breaks.Given as goal

abbrev pub invariant-loop-x : goal.invariant-loop-x
invariant-loop-x l = (Scratch l.values l.next × (length l.to ≡ 4096)) × TableStep plain (Upto (FarBreak plain (tables_of l.cells) (claim_in l.d l.table)) l.x) (entry_in l.initial.to) (entry_in l.to)
