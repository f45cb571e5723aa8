-- `crossings::production::longest` meets its contract. Assumes nothing.
use native.Mathlib.Nat.{le_antisymm}
use Rattle.crossings.specs.CrossingsLaws.{longest-from-more}
use Rattle.crossings.proofs.production.longest.Goals as goal

pub loop-p-preserved : goal.loop-p-preserved
loop-p-preserved c = longest-from-more c.loop-p.invariant c.longer-r.ensures

pub returns : goal.returns
returns c = rw (le_antisymm c.loop-p.auto.p-end c.loop-p-test.false) at c.loop-p.invariant
