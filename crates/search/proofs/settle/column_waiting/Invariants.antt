use Prim.Native.Nat.{ℕ, ◌+◌, ◌-◌, ◌*◌, ◌≤◌, ◌<◌}
use lib.ListN.{get_or}
use Rattle.walk.specs.Scale.{plain}
use Rattle.waiting.specs.Waiting.{event_in}
use Rattle.search.proofs.settle.column_waiting.Given as goal

abbrev pub invariant-loop-c : goal.invariant-loop-c
invariant-loop-c l = ((k : ℕ) → k < l.c → get_or l.done (l.x * 32 + k) 0 ≤ event_in plain l.events (l.at * 32 + l.x) k)
