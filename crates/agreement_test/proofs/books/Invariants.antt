use Rattle.std.proofs.Common.{◌≡◌, ◌-◌, length}
use Rattle.agreement_test.proofs.books.Given as goal

abbrev pub invariant-loop-at : goal.invariant-loop-at
invariant-loop-at l = length l.cells ≡ length l.initial.cells

abbrev pub decreases-loop-at : goal.decreases-loop-at
decreases-loop-at l = length l.bytes - l.at
