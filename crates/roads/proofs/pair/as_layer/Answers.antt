-- `roads::pair::as_layer` meets its contract. Assumes nothing.
use native.Mathlib.Omega.{arith}
use Rattle.roads.specs.PairLaws.{pairs-more}
use Rattle.roads.proofs.pair.as_layer.Goals as goal

pub loop-k-preserved : goal.loop-k-preserved
loop-k-preserved c =
    let p = c.requires in pairs-more p.0 p.1 (omega (arith, p.2, c.loop-k-test.true)) c.loop-k.invariant
