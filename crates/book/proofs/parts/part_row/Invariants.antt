use Prim.Native.Nat.{◌-◌, ◌≤◌}
use Rattle.book.specs.PartsLaws.{numbers}
use Rattle.book.specs.Range.{fault, part_length}
use Rattle.book.proofs.SeenLaws.{Marks}
use Rattle.book.specs.RowLaws.{Turns}
use Rattle.book.proofs.parts.part_row.Given as goal

abbrev pub invariant-loop-i : goal.invariant-loop-i
invariant-loop-i l = (t : Turns (numbers l.source) (fault l.d l.part) (part_length l.d l.part) l.initial.at l.i l.at) × Marks l.part l.ranks t.seen
