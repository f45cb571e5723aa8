use Prim.Native.Nat.{◌-◌, ◌≤◌}
use Rattle.forms.specs.OrderLaws.{Filling}
use Rattle.forms.proofs.order.by_rank.Given as goal

abbrev pub invariant-loop-a : goal.invariant-loop-a
invariant-loop-a l = Filling l.cells l.d l.order l.a
