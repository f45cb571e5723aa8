-- `forms::order::by_rank` meets its contract: terminal by terminal. Assumes nothing.
use native.Mathlib.Omega.{arith}
use Prim.Native.Nat.{◌-◌}
use Rattle.forms.specs.OrderLaws.{filling-none, filling-more, filling-done}
use Rattle.forms.specs.RankLaws.{rank_below}
use Rattle.forms.proofs.WritingLaws.{bounds}
use Rattle.forms.proofs.order.by_rank.Goals as goal

pub loop-a-init : goal.loop-a-init
loop-a-init c = filling-none _ _ c.requires

pub overflow_cast-order : goal.overflow_cast-order
overflow_cast-order c =
    let b = bounds _ _ c.requires in omega (arith, b.terminals, c.loop-a-test.true)

pub bounds-order-rank_at : goal.bounds-order-rank_at
bounds-order-rank_at c =
    let b = bounds _ _ c.requires in omega (arith, c.rank_at.ensures, rank_below _ _ c.requires c.loop-a.a c.loop-a-test.true, b.terminals, c.loop-a.invariant.size)

pub loop-a-preserved : goal.loop-a-preserved
loop-a-preserved c =
    rw c.rank_at.ensures (filling-more _ _ c.requires c.loop-a.invariant c.loop-a-test.true)

pub returns : goal.returns
returns c = filling-done _ _ c.requires c.loop-a.invariant c.loop-a-test.false
