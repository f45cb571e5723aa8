-- `search::settle::column_waiting` meets its contract. Assumes nothing.
use native.Mathlib.Nat.{le_refl}
use native.Mathlib.Omega.{arith}
use mathlib.Core.Logic.{inl, inr}
use Rattle.walk.specs.Scale.{plain}
use Rattle.positions.specs.PositionLaws.{each_more}
use Rattle.waiting.specs.EventLaws.{row-dark, row_read}
use Rattle.search.specs.SettleLaws.{column-none}
use Rattle.search.proofs.settle.column_waiting.Goals as goal

pub returns-then-events-at-eq0 : goal.returns-then-events-at-eq0
returns-then-events-at-eq0 c =
    column-none _ _ _ _ _ (le_refl _) c.requires.done_most (λ k l. row-dark plain c.args.events.now c.args.at c.args.x c.requires.t_bound.2 (inl c.if-events-at-eq0.true) k)

pub returns-then-events-row-eq0 : goal.returns-then-events-row-eq0
returns-then-events-row-eq0 c =
    column-none _ _ _ _ _ (le_refl _) c.requires.done_most (λ k l. row-dark plain c.args.events.now c.args.at c.args.x c.requires.t_bound.2 (inr c.if-events-row-eq0.true) k)

pub returns-then-events-row : goal.returns-then-events-row
returns-then-events-row c =
    let cell = row_read plain c.args.events.now c.args.at c.args.x c.requires.t_bound.2 c.if-events-at-eq0.false c.if-events-row-eq0.false c.loop-c.c in
    record { lower = λ h. rw cell c.if-events-row.true; none = λ h k l. absurd (omega (arith, c.loop-c-test.true, h)) }

pub loop-c-preserved : goal.loop-c-preserved
loop-c-preserved c =
    let cell = row_read plain c.args.events.now c.args.at c.args.x c.requires.t_bound.2 c.if-events-at-eq0.false c.if-events-row-eq0.false c.loop-c.c in
    each_more c.loop-c.invariant (rw cell c.if-events-row.false)
