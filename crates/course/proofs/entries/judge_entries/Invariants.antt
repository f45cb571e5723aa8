use mathlib.Core.Path.{◌≡◌}
use lib.ListN.{length, drop}
use Rattle.book.specs.Tables.{tables_of}
use Rattle.course.specs.Turns.{items_at}
use Rattle.course.proofs.TurnsLaws.{Going}
use Rattle.course.proofs.entries.judge_entries.Given as goal

abbrev pub invariant-loop-e : goal.invariant-loop-e
invariant-loop-e l = (length l.stack ≡ length l.initial.stack) × (drop 1024 l.stack ≡ drop 1024 l.initial.stack) × Going l.ordered (tables_of l.cells) l.d.t l.list (items_at l.d.t l.list l.first l.count) l.count l.i l.at l.left l.least l.places

abbrev pub decreases-loop-e : goal.decreases-loop-e
decreases-loop-e l = l.left
