use mathlib.Core.Path.{◌≡◌}
use lib.ListN.{length}
use Rattle.listing_test.proofs.ring.put_actions.Given as goal

abbrev pub invariant-loop-i : goal.invariant-loop-i
invariant-loop-i l = length l.bytes ≡ length l.initial.bytes
