-- `approach::near::layers_to` meets its contract. Assumes nothing.
use native.Mathlib.Omega.{arith}
use Rattle.approach.specs.NearLaws.{layers-none, layers-more}
use Rattle.approach.proofs.near.layers_to.Goals as goal

pub loop-m-init : goal.loop-m-init
loop-m-init c =
    let p = c.requires in layers-none p.usable.fitted.holds p.due_len c.only.ensures

pub loop-m-preserved : goal.loop-m-preserved
loop-m-preserved c =
    let p = c.requires in
    let s = c.sooner.ensures in
    rw c.put.ensures (layers-more p.usable.fitted.holds (omega (arith, c.loop-m-test.true, p.s_lt_s.2)) c.loop-m.invariant s.bounded_2 s.sooner_layer)
