-- `roads::leaving::gotos_leave` meets its contract. Assumes nothing.
use borrow.Author.Count.{below_more}
use Rattle.roads.proofs.leaving.gotos_leave.Goals as goal

pub loop-x-preserved : goal.loop-x-preserved
loop-x-preserved c =
    below_more _ _ c.loop-x.invariant (c.goto_leaves.ensures c.if-goto_leaves.false)
