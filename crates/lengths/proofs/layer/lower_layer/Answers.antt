-- `lengths::layer::lower_layer` meets its contract. Assumes nothing.
use native.Mathlib.Omega.{arith}
use Rattle.layers.specs.StepLaws.{step-done}
use Rattle.lengths.specs.LengthsLaws.{ending-listed}
use Rattle.lengths.proofs.layer.lower_layer.Goals as goal

pub returns-clause-table_step : goal.returns-clause-table_step
returns-clause-table_step c =
    let e = c.count_on-i-end.ensures in
    ending-listed c.requires.holds _ _ c.requires.m_bound.1 (step-done (omega (arith, c.loop-i.auto.i-end, e)) (omega (arith, c.loop-i-test.false, e)) c.loop-i.invariant.1)
