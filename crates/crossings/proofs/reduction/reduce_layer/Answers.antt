-- `crossings::reduction::reduce_layer` meets its contract. Assumes nothing.
use native.Mathlib.Omega.{arith}
use Rattle.crossings.specs.FallingLaws.{pass-more, pass-map, pass-done}
use Rattle.crossings.specs.PassLaws.{kept-join}
use Rattle.crossings.specs.ReductionLaws.{settled-listed}
use Rattle.crossings.proofs.reduction.reduce_layer.Goals as goal

pub loop-i-preserved : goal.loop-i-preserved
loop-i-preserved c =
    pass-more _ _ kept-join c.most-n.ensures c.loop-i.invariant (rw c.state_on-last.ensures at c.reduce_state.ensures)

pub returns : goal.returns
returns c =
    let o = c.loop-i.invariant in pass-map (settled-listed _ _ o.keeps.sound c.requires.q_lt_s.1 c.requires.q_lt_s.2) (pass-done _ (omega (arith, c.loop-i.auto.i-end, c.count_on-i-end.ensures)) (omega (arith, c.loop-i-test.false, c.count_on-i-end.ensures)) o)
