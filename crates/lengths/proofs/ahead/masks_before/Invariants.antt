use Rattle.book.specs.Tables.{tables_of}
use Rattle.lengths.specs.Lengths.{AheadMasks}
use Rattle.lengths.proofs.ahead.masks_before.Given as goal

abbrev pub invariant-loop-q : goal.invariant-loop-q
invariant-loop-q l = AheadMasks (tables_of l.cells) l.m l.q l.masks
