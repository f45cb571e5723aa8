-- `search::settle::follow` meets its contract. Assumes nothing.
use native.Mathlib.Omega.{arith}
use mathlib.Core.Path.{◌∙◌, sym}
use Prim.Native.Nat.{◌-◌}
use Rattle.layers.specs.CrossingLaws.{goto-least}
use Rattle.search.specs.Settle.{absent, passed, hits}
use Rattle.search.proofs.settle.follow.Goals as goal

pub returns-then-target-eq0-clause-followed : goal.returns-then-target-eq0-clause-followed
returns-then-target-eq0-clause-followed c =
    rw c.waiting_at-v.ensures (absent (sym c.goto_at-target.ensures ∙ c.if-target-eq0.true))

pub cost_to_go-w-requires-clause-g_bound : goal.cost_to_go-w-requires-clause-g_bound
cost_to_go-w-requires-clause-g_bound c =
    let p = c.requires in
    (omega (arith, goto-least p.usable.fitted.holds _ _ c.goto_at-target.ensures), omega (arith, p.q_lt_s.4, p.usable.fitted.holds.small.terminals))

pub returns-then-add-r-clause-followed : goal.returns-then-add-r-clause-followed
returns-then-add-r-clause-followed c =
    let g = c.goto_at-target in
    let some = c.if-target-eq0.false in
    hits {g = g.result - 1} (omega (arith, some, g.ensures)) (rw (c.add.ensures, c.cost_to_go-w.ensures, c.waiting_at-v.ensures) at c.if-add-r.true)

pub expand-requires-clause-g_lt_s : goal.expand-requires-clause-g_lt_s
expand-requires-clause-g_lt_s c =
    let p = c.requires in
    (omega (arith, c.if-target-eq0.false, goto-least p.usable.fitted.holds _ _ c.goto_at-target.ensures), p.q_lt_s.4, p.q_lt_s.1, p.q_lt_s.2)

pub returns-clause-followed : goal.returns-clause-followed
returns-clause-followed c =
    let w = c.waiting_at-v.ensures in
    let e = c.expand.ensures in
    let g = c.goto_at-target in
    rw w (passed {g = g.result - 1} (omega (arith, c.if-target-eq0.false, g.ensures)) (rw (c.add.ensures, c.cost_to_go-w.ensures, w) at c.if-add-r.false) (rw w at e.table_step))
