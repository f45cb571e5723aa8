use Rattle.book.specs.Tables.{tables_of}
use Rattle.lengths.specs.Lengths.{AheadMasks}
use Rattle.lengths.proofs.ahead.ahead.Given as goal

abbrev pub invariant-loop-m : goal.invariant-loop-m
invariant-loop-m l = AheadMasks (tables_of l.cells) l.m l.d.s l.masks × AheadMasks (tables_of l.cells) l.m l.d.s l.after
