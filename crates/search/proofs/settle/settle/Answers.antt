-- `search::settle::settle` meets its contract. Assumes nothing.
use native.Mathlib.Omega.{arith}
use mathlib.Core.Path.{◌∙◌}
use Rattle.walk.specs.Scale.{plain}
use Rattle.walk.specs.FillLaws.{filled-size}
use Rattle.layers.specs.CrossingLaws.{terminals-are}
use Rattle.waiting.specs.EventLaws.{event-off, row-shut, rows-off}
use Rattle.waiting.specs.ExpandLaws.{holds-narrow, nonterminals-are}
use Rattle.search.specs.SettleLaws.{some-not-none, done-most-less, done_none, follows-none, follows-more, follows-less, settled-some, settled-none, settled-off}
use Rattle.search.proofs.settle.settle.Goals as goal

pub returns-then-events-at-eq0-clause-depth_settled : goal.returns-then-events-at-eq0-clause-depth_settled
returns-then-events-at-eq0-clause-depth_settled c =
    let p = c.requires in
    settled-off (holds-narrow p.usable.fitted.holds) (omega (arith, p.q_lt_s.2)) (λ row c' e. event-off plain _ row c' (row-shut _ row (rw e c.if-events-at-eq0.true)))

pub next_waiting-i-requires-clause-done_most : goal.next_waiting-i-requires-clause-done_most
next_waiting-i-requires-clause-done_most c =
    let p = c.requires in
    record { most = λ k h. omega (arith, done_none plain c.args.done.now (omega (arith, p.usable.fitted.holds.small.nonterminals, p.search_room.followed)) c.fill.ensures k (omega (arith, h))) }

pub loop-i-init : goal.loop-i-init
loop-i-init c =
    let p = c.requires in
    let s = p.search_room in
    (record { layers = s.layers; rows = s.rows; followed = rw c.fill.ensures (filled-size _ _ _ _ ∙ s.followed) }, follows-none (λ k h. done_none plain c.args.done.now (omega (arith, p.usable.fitted.holds.small.nonterminals, s.followed)) c.fill.ensures k (omega (arith, h, nonterminals-are p.usable.fitted.holds))), c.next_waiting-i.ensures)

pub returns-in-Some-clause-depth_settled : goal.returns-in-Some-clause-depth_settled
returns-in-Some-clause-depth_settled c =
    let p = c.requires in
    let l = c.loop-i.invariant in
    let i = c.loop-i-test.true in
    let f = c.in-Some.ensures in
    settled-some (holds-narrow p.usable.fitted.holds) (omega (arith, p.q_lt_s.2)) l.0.followed (omega (arith, i, nonterminals-are p.usable.fitted.holds)) (l.2.lower i) l.1 f.followed some-not-none

pub next_waiting-i-requires-in-loop-i-clause-done_most : goal.next_waiting-i-requires-in-loop-i-clause-done_most
next_waiting-i-requires-in-loop-i-clause-done_most c =
    let p = c.requires in
    let l = c.loop-i.invariant in
    let i = c.loop-i-test.true in
    let f = follows-more (holds-narrow p.usable.fitted.holds) (omega (arith, p.q_lt_s.2)) l.0.followed (omega (arith, i, nonterminals-are p.usable.fitted.holds)) (l.2.lower i) l.1 c.follow-hit.ensures.followed c.in_default.is in
    done-most-less (omega (arith, nonterminals-are p.usable.fitted.holds)) f.most

pub loop-i-smaller : goal.loop-i-smaller
loop-i-smaller c =
    let p = c.requires in
    let l = c.loop-i.invariant in
    let i = c.loop-i-test.true in
    follows-less (holds-narrow p.usable.fitted.holds) (omega (arith, p.q_lt_s.2)) l.0.followed (omega (arith, i, nonterminals-are p.usable.fitted.holds)) (l.2.lower i) l.1 c.follow-hit.ensures.followed c.in_default.is

pub loop-i-preserved : goal.loop-i-preserved
loop-i-preserved c =
    let p = c.requires in
    let l = c.loop-i.invariant in
    let i = c.loop-i-test.true in
    let f = c.follow-hit.ensures in
    (f.search_room_2, follows-more (holds-narrow p.usable.fitted.holds) (omega (arith, p.q_lt_s.2)) l.0.followed (omega (arith, i, nonterminals-are p.usable.fitted.holds)) (l.2.lower i) l.1 f.followed c.in_default.is, c.next_waiting-i-in-loop-i.ensures)

pub returns-clause-depth_settled : goal.returns-clause-depth_settled
returns-clause-depth_settled c =
    let p = c.requires in
    let l = c.loop-i.invariant in
    settled-none (holds-narrow p.usable.fitted.holds) (omega (arith, p.q_lt_s.2)) (omega (arith, terminals-are p.usable.fitted.holds)) (omega (arith, nonterminals-are p.usable.fitted.holds)) l.1 (l.2.none c.loop-i-test.false) (rows-off _ _ p.q_lt_s.1 l.0.rows)
