-- `lengths::starts::reached` meets its contract. Assumes nothing.
use Rattle.layers.specs.Layer.{entry_in}
use Rattle.positions.specs.PositionLaws.{each_more}
use Rattle.lengths.proofs.starts.reached.Goals as goal

pub loop-a-preserved : goal.loop-a-preserved
unfolding entry_in
loop-a-preserved c = each_more c.loop-a.invariant c.if-dist-row-lt-UNREACHED.false
