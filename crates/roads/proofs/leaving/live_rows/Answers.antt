-- `roads::leaving::live_rows` meets its contract. Assumes nothing.
use native.Mathlib.Omega.{arith}
use Rattle.roads.specs.LeavingLaws.{flags-more, flags-usable}
use Rattle.roads.proofs.leaving.live_rows.Goals as goal

pub loop-k-preserved : goal.loop-k-preserved
loop-k-preserved c = flags-more (omega arith) c.loop-k.invariant c.flag.ensures

pub returns : goal.returns
returns c = flags-usable c.requires c.loop-k-test.false c.loop-k.invariant
