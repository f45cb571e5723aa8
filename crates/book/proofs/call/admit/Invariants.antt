use Rattle.std.specs.Prelude.{Ok, ◌≡◌, drop}
use Rattle.book.specs.Call.{steps}
use Rattle.book.proofs.call.admit.Given as goal

-- the steps so far refuse nothing
abbrev pub invariant-loop-this : goal.invariant-loop-this
invariant-loop-this l = steps (Ok l.d) (drop l.this-index l.refusals) ≡ steps (Ok l.d) l.refusals
