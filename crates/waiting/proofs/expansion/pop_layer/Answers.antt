-- `waiting::expansion::pop_layer` meets its contract. Assumes nothing.
use native.Mathlib.Omega.{arith}
use Rattle.book.specs.Tables.{tables_of}
use Rattle.walk.specs.Scale.{plain}
use Rattle.layers.specs.StepLaws.{step-more, step-done}
use Rattle.waiting.specs.ExpandLaws.{expand-listed}
use Rattle.waiting.proofs.expansion.pop_layer.Goals as goal

pub loop-i-preserved : goal.loop-i-preserved
loop-i-preserved c =
    (c.pop_state.ensures.events_len_2, step-more _ _ c.loop-i.invariant.1 (rw c.state_on-q.ensures at c.pop_state.ensures.table_step))

pub returns-clause-table_step : goal.returns-clause-table_step
returns-clause-table_step c =
    let a = c.args in
    expand-listed plain a.d (tables_of a.cells.now) a.at a.m a.r a.v a.values.now a.on.now (omega (arith, c.requires.at_bound.1)) c.requires.at_bound.2 (step-done (omega (arith, c.loop-i.auto.i-end, c.count_on-i-end.ensures)) (omega (arith, c.loop-i-test.false, c.count_on-i-end.ensures)) c.loop-i.invariant.1)
