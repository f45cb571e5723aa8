-- `waiting::expansion::expand` meets its contract. Assumes nothing.
use native.Mathlib.Omega.{arith}
use Rattle.layers.specs.CrossingLaws.{terminal}
use Rattle.walk.proofs.LayersLaws.{layer-where}
use Rattle.waiting.specs.Pending.{Pending}
use Rattle.waiting.specs.ExpandLaws.{holds-narrow, layer-begun, step-first, expands-more, expands-skipped, expands-all}
use Rattle.waiting.proofs.expansion.expand.Goals as goal

pub returns-then-rows-g-eq0-clause-table_step : goal.returns-then-rows-g-eq0-clause-table_step
returns-then-rows-g-eq0-clause-table_step c =
    let p = c.requires in
    let a = c.args in
    let o = c.pop_at.ensures in
    expands-all a.at (expands-more a.at (step-first a.at (omega (arith, p.g_lt_s.3)) (terminal p.usable.fitted.holds p.g_lt_s.1) o.table_step) (expands-skipped a.at (omega (arith, p.g_lt_s.3)) p.usable.skips c.if-rows-g-eq0.true))

pub expand_after-requires-clause-scratch : goal.expand_after-requires-clause-scratch
expand_after-requires-clause-scratch c =
    let p = c.requires in
    (record { first = (c.begin.ensures.by_index _ p.g_lt_s.0).size; second = p.scratch.0.second }, c.pop_at.ensures.events_len_2, (c.begin.ensures.by_index _ p.g_lt_s.0).listed)

pub returns-clause-table_step : goal.returns-clause-table_step
returns-clause-table_step c =
    let p = c.requires in
    let a = c.args in
    let e = c.expand_after.ensures in
    let ha = terminal p.usable.fitted.holds p.g_lt_s.1 in
    let first = layer-where (Pending a.pending.now c.rest-bound.result) (layer-begun (holds-narrow p.usable.fitted.holds).terminals ha c.begin.ensures.begun) in
    expands-all a.at (expands-more a.at (step-first a.at (omega (arith, p.g_lt_s.3)) ha c.pop_at.ensures.table_step) (e.by_index a.g a.a first))
