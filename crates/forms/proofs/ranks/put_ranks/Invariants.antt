use mathlib.Core.Path.{◌≡◌}
use Prim.Native.Nat.{◌-◌, ◌≤◌}
use lib.ListN.{length}
use lib.Seq.{paste}
use Rattle.number.specs.Lent.{firsts}
use Rattle.book.specs.Tables.{rank_of}
use Rattle.forms.proofs.ranks.put_ranks.Given as goal

abbrev pub invariant-loop-a : goal.invariant-loop-a
invariant-loop-a l = (l.to ≡ paste l.initial.to l.at (firsts (rank_of l.cells) l.d.t) l.a) × (length l.to ≡ length l.initial.to)
