-- `lengths::ahead::by_actions` meets its contract. Assumes nothing.
use native.Mathlib.Nat.{le_antisymm}
use Rattle.lengths.specs.AheadLaws.{grown-more}
use Rattle.lengths.proofs.ahead.by_actions.Goals as goal

pub loop-z-preserved : goal.loop-z-preserved
loop-z-preserved c = grown-more _ _ c.loop-z.invariant c.by_action-mask.ensures

pub returns : goal.returns
returns c = rw (le_antisymm c.loop-z.auto.z-end c.loop-z-test.false) at c.loop-z.invariant
