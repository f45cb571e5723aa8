use mathlib.Core.Path.{◌≡◌}
use lib.ListN.{length}
use Rattle.book.specs.Order.{place_in}
use Rattle.book.specs.Tables.{tables_of}
use Rattle.lines.specs.StateLaws.{Lines}
use Rattle.lines.proofs.state.put_state.Given as goal

abbrev pub invariant-loop-z : goal.invariant-loop-z
invariant-loop-z l = (length l.sentence ≡ 1000) × Lines (place_in l.order) (tables_of l.cells) l.s l.initial.out l.at l.out l.next l.z
