use Prim.Native.Nat.{◌-◌, ◌*◌}
use Rattle.walk.specs.Scale.{plain}
use Rattle.waiting.specs.Waiting.{event_in}
use Rattle.search.specs.Settle.{NoneBelow}
use Rattle.search.proofs.settle.next_waiting.Given as goal

abbrev pub invariant-loop-x : goal.invariant-loop-x
invariant-loop-x l = NoneBelow l.t l.at (event_in plain l.events) l.done (l.x * 32)
