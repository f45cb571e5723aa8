-- `choice::sentence::choose` meets its contract: each symbol is the lowest by rank that keeps a shortest sentence in sight. Assumes nothing.
use native.Mathlib.Omega.{arith}
use mathlib.Core.Path.{◌≡◌, refl, sym, ◌∙◌, subst}
use Prim.Native.Nat.{ℕ, ◌+◌, ◌-◌, ◌≤◌, ◌<◌}
use lib.ListN.{length, length-set}
use Rattle.book.specs.Tables.{tables_of}
use Rattle.book.proofs.TablesLaws.{in-range}
use Rattle.layers.specs.CrossingLaws.{states-are, terminals-are}
use Rattle.choice.specs.ChoosingLaws.{begun-length, choosing-begun, choosing-pick, choosing-more, choosing-done}
use Rattle.choice.specs.Taking.{Stacked}
use Rattle.choice.specs.TakingLaws.{part-states}
use Rattle.choice.proofs.sentence.choose.Goals as goal

zero_left : (n : ℕ) → n - 0 ≡ n
zero_left n = omega arith

one_less : (n i : ℕ) → i < n → n - (i + 1) ≡ n - i - 1
one_less n i h = omega arith

pub loop-i-init : goal.loop-i-init
loop-i-init c =
    let p = c.requires in
    let a = c.args in
    let stacked : Stacked (tables_of a.cells.now).states a.stack.now a.depth = subst (λ (k : ℕ). Stacked k a.stack.now a.depth) (sym (states-are p.usable.fitted.holds)) p.stacked.0 in
    (refl, refl, rw (zero_left _) (choosing-begun stacked (omega (arith, p.stacked.1)) p.exact p.n_le_limit.0), p.costs_len)

pub lowest-a-requires-clause-layered : goal.lowest-a-requires-clause-layered
lowest-a-requires-clause-layered c =
    let p = c.requires in
    let l = c.loop-i.invariant in
    let room : c.loop-i.depth + 128 ≤ length c.loop-i.stack = omega (arith, l.2.low, begun-length c.args.depth c.args.stack.now (omega (arith, p.stacked.1)), p.stacked.1, l.1, c.loop-i-test.true) in
    (p.layered.0, part-states (rw (states-are p.usable.fitted.holds) at l.2.stacked) (omega (arith, room)))

pub overflow_cast-buffer : goal.overflow_cast-buffer
overflow_cast-buffer c =
    let p = c.requires in
    let l = c.loop-i.invariant in
    let room : c.loop-i.depth + 128 ≤ length c.loop-i.stack = omega (arith, l.2.low, begun-length c.args.depth c.args.stack.now (omega (arith, p.stacked.1)), p.stacked.1, l.1, c.loop-i-test.true) in
    let pick = choosing-pick (in-range p.usable.fitted.holds) p.layered.1 l.2 (omega (arith, c.loop-i-test.true)) (omega (arith, p.n_le_limit.0)) (omega (arith, room)) (terminals-are p.usable.fitted.holds) c.lowest-a.ensures.lowest_by in
    omega (arith, pick.terminal, terminals-are p.usable.fitted.holds, p.usable.fitted.holds.small.terminals)

pub take_in-depth-requires-clause-a_lt_t : goal.take_in-depth-requires-clause-a_lt_t
take_in-depth-requires-clause-a_lt_t c =
    let p = c.requires in
    let l = c.loop-i.invariant in
    let room : c.loop-i.depth + 128 ≤ length c.loop-i.stack = omega (arith, l.2.low, begun-length c.args.depth c.args.stack.now (omega (arith, p.stacked.1)), p.stacked.1, l.1, c.loop-i-test.true) in
    let pick = choosing-pick (in-range p.usable.fitted.holds) p.layered.1 l.2 (omega (arith, c.loop-i-test.true)) (omega (arith, p.n_le_limit.0)) (omega (arith, room)) (terminals-are p.usable.fitted.holds) c.lowest-a.ensures.lowest_by in
    omega (arith, pick.terminal, terminals-are p.usable.fitted.holds)

pub take_in-depth-requires-clause-stacked : goal.take_in-depth-requires-clause-stacked
take_in-depth-requires-clause-stacked c =
    let p = c.requires in
    let l = c.loop-i.invariant in
    let room : c.loop-i.depth + 128 ≤ length c.loop-i.stack = omega (arith, l.2.low, begun-length c.args.depth c.args.stack.now (omega (arith, p.stacked.1)), p.stacked.1, l.1, c.loop-i-test.true) in
    let pick = choosing-pick (in-range p.usable.fitted.holds) p.layered.1 l.2 (omega (arith, c.loop-i-test.true)) (omega (arith, p.n_le_limit.0)) (omega (arith, room)) (terminals-are p.usable.fitted.holds) c.lowest-a.ensures.lowest_by in
    (rw (states-are p.usable.fitted.holds) at l.2.stacked, omega (arith, room), pick.ready)

pub loop-i-preserved : goal.loop-i-preserved
loop-i-preserved c =
    let p = c.requires in
    let l = c.loop-i.invariant in
    let room : c.loop-i.depth + 128 ≤ length c.loop-i.stack = omega (arith, l.2.low, begun-length c.args.depth c.args.stack.now (omega (arith, p.stacked.1)), p.stacked.1, l.1, c.loop-i-test.true) in
    let pick = choosing-pick (in-range p.usable.fitted.holds) p.layered.1 l.2 (omega (arith, c.loop-i-test.true)) (omega (arith, p.n_le_limit.0)) (omega (arith, room)) (terminals-are p.usable.fitted.holds) c.lowest-a.ensures.lowest_by in
    let t = c.loop-i-test.true in
    let e = c.take_in-depth.ensures in
    (simp length-set l.0, e.taken.size ∙ l.1, rw (one_less _ _ t) (choosing-more l.2 pick e.taken (omega (arith, t, c.requires.n_le_limit.1))), e.costs_len_2)

pub returns : goal.returns
returns c =
    choosing-done c.loop-i.invariant.2 (omega (arith, c.loop-i.auto.i-end, c.loop-i-test.false)) c.requires.n_le_limit.0
