use mathlib.Core.Path.{◌≡◌}
use lib.ListN.{length}
use lib.Seq.{sets}
use Rattle.lists.specs.Entry.{part}
use Rattle.sorting.proofs.putting.copy_bytes.Given as goal

abbrev pub invariant-loop-i : goal.invariant-loop-i
invariant-loop-i l = (l.to ≡ sets l.initial.to l.at (part l.from l.start l.i)) × (length l.to ≡ length l.initial.to)
