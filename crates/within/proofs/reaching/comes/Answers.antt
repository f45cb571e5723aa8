-- `within::reaching::comes` meets its contract: reduction by reduction, it goes on as from the start. Assumes nothing.
use native.Mathlib.Omega.{arith}
use lib.ListN.{length-set}
use Rattle.within.proofs.ReachingLaws.{coming-now, coming-last, coming-deep, coming-other, coming-more, coming-on, some-left}
use Rattle.within.proofs.reaching.comes.Goals as goal

pub returns-then-stack-n : goal.returns-then-stack-n
returns-then-stack-n c = coming-now c.loop.invariant.1 c.if-stack-n.true

pub returns-then-m-ge-DEPTH : goal.returns-then-m-ge-DEPTH
returns-then-m-ge-DEPTH c =
    let l = rw c.in-Reduce.is at c.look.ensures in
    coming-deep c.loop.invariant.1 c.if-stack-n.false (some-left c.loop-test.true) l c.if-m-ge-DEPTH.true

pub loop-preserved : goal.loop-preserved
loop-preserved c =
    let l = rw c.in-Reduce.is at c.look.ensures in
    (simp length-set c.loop.invariant.0, coming-on _ (coming-more c.loop.invariant.1 c.if-stack-n.false (some-left c.loop-test.true) l c.if-m-ge-DEPTH.false))

pub returns-in_default : goal.returns-in_default
returns-in_default c =
    coming-other c.loop.invariant.1 c.if-stack-n.false (some-left c.loop-test.true) c.look.result c.look.ensures c.in_default.not-Reduce

pub returns : goal.returns
returns c = coming-last c.loop.invariant.1 (omega arith)
