-- `choice::taking::take_in` meets its contract: the search finds the part of the stack that stays, and the rest is pushed. Assumes nothing.
use lib.ListN.{length-set}
use Rattle.advance.specs.NearestLaws.{near-low}
use Rattle.choice.specs.AdvanceLaws.{ready-completes}
use Rattle.choice.specs.TakingLaws.{placed-top, spot, taking}
use native.Mathlib.Omega.{arith}
use mathlib.Core.Path.{sym, ◌∙◌, subst}
use Prim.Native.Nat.{ℕ}
use Rattle.book.specs.Tables.{tables_of}
use Rattle.book.proofs.TablesLaws.{in-range}
use Rattle.walk.specs.Ends.{to_go}
use Rattle.layers.specs.CrossingLaws.{states-are, terminal}
use Rattle.choice.specs.StillLaws.{column-still}
use Rattle.choice.specs.Taking.{Stacked}
use Rattle.choice.proofs.taking.take_in.Goals as goal

pub returns-in_default-clause-taken : goal.returns-in_default-clause-taken
unfolding to_go
returns-in_default-clause-taken c =
    let p = c.requires in
    let (y, k, l) = ready-completes (in-range p.usable.fitted.holds) p.closed.0 p.closed.1 (terminal p.usable.fitted.holds p.a_lt_t) c.nearest.ensures (column-still (tables_of c.args.cells.now) _ _ _ (rw (← states-are p.usable.fitted.holds) at c.still.ensures)) p.stacked.2 in
    absurd (c.in_default.ensures.searched y k l)

pub overflow_cast-stack : goal.overflow_cast-stack
unfolding to_go
overflow_cast-stack c =
    let p = c.requires in
    let stacked = subst (λ (n : ℕ). Stacked n c.args.stack.now c.args.depth) (sym (states-are p.usable.fitted.holds)) p.stacked.0 in
    let spot-here = spot (in-range p.usable.fitted.holds) p.closed.1 (column-still (tables_of c.args.cells.now) _ _ _ (rw (← states-are p.usable.fitted.holds) at c.still.ensures)) stacked (omega (arith, p.stacked.1)) c.in-Some.ensures.searched in
    omega (arith, spot-here.state, states-are p.usable.fitted.holds, p.usable.fitted.holds.small.states)

pub push_to_shift-requires-clause-depth_bound : goal.push_to_shift-requires-clause-depth_bound
unfolding to_go
push_to_shift-requires-clause-depth_bound c =
    let p = c.requires in
    let stacked = subst (λ (n : ℕ). Stacked n c.args.stack.now c.args.depth) (sym (states-are p.usable.fitted.holds)) p.stacked.0 in
    let spot-here = spot (in-range p.usable.fitted.holds) p.closed.1 (column-still (tables_of c.args.cells.now) _ _ _ (rw (← states-are p.usable.fitted.holds) at c.still.ensures)) stacked (omega (arith, p.stacked.1)) c.in-Some.ensures.searched in
    let top = placed-top c.args.stack.now c.in-Some.kept c.in-Some.g (omega (arith, spot-here.low, p.stacked.1)) in
    (rw top (omega (arith, spot-here.state, states-are p.usable.fitted.holds)), rw top spot-here.near)

pub returns-clause-taken : goal.returns-clause-taken
unfolding to_go
returns-clause-taken c =
    let p = c.requires in
    let stacked = subst (λ (n : ℕ). Stacked n c.args.stack.now c.args.depth) (sym (states-are p.usable.fitted.holds)) p.stacked.0 in
    let spot-here = spot (in-range p.usable.fitted.holds) p.closed.1 (column-still (tables_of c.args.cells.now) _ _ _ (rw (← states-are p.usable.fitted.holds) at c.still.ensures)) stacked (omega (arith, p.stacked.1)) c.in-Some.ensures.searched in
    taking stacked p.stacked.1 spot-here (near-low c.nearest.ensures.sound _ spot-here.near) c.push_to_shift.ensures (c.push_to_shift.auto.stack ∙ length-set c.args.stack.now c.in-Some.kept c.in-Some.g)
