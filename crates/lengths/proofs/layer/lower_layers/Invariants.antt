use mathlib.Core.Path.{◌≡◌}
use lib.ListN.{length}
use Rattle.book.specs.Tables.{tables_of}
use Rattle.walk.specs.Scale.{plain}
use Rattle.layers.specs.Crossing.{claim_in}
use Rattle.layers.specs.Layer.{Sized, entry_in, value_in}
use Rattle.layers.specs.Step.{TableStep, Upto}
use Rattle.lengths.specs.Starts.{LayerFrom, Ending}
use Rattle.lengths.proofs.layer.lower_layers.Given as goal

abbrev pub invariant-loop-m : goal.invariant-loop-m
invariant-loop-m l = Sized l.d.s l.values l.flags × (length l.next ≡ 4096) × (length l.to ≡ 4096)
    × LayerFrom plain (tables_of l.cells) (claim_in l.d l.table) (value_in plain l.initial.values l.initial.flags) l.m (value_in plain l.values l.flags)
    × TableStep plain (Upto (Ending plain (tables_of l.cells) (claim_in l.d l.table) l.missing (value_in plain l.initial.values l.initial.flags)) l.m) (entry_in l.initial.to) (entry_in l.to)
