-- `machine::looks::reduction` meets its contract: broken if too few states are stacked or the goto is none. Assumes nothing.
use Rattle.book.specs.Tables.{tables_of}
use mathlib.Core.Path.{sym, ◌∙◌}
use Prim.Native.Nat.{◌-◌}
use native.Mathlib.Omega.{arith}
use Rattle.machine.specs.StackLaws.{goto-below, stack-left-below, lands-short, lands-none, lands-goto}
use Rattle.machine.proofs.looks.reduction.Goals as goal

pub returns-then-depth-n : goal.returns-then-depth-n
returns-then-depth-n c =
    lands-short (tables_of c.args.cells.now) c.args.stack.now c.args.depth _ ((tables_of c.args.cells.now).len c.args.p) (omega (arith, c.if-depth-n.true, c.production_length-n.ensures))

pub goto_at-g-requires : goal.goto_at-g-requires
goto_at-g-requires c =
    record {
      holds = c.requires.holds;
      q_lt_s = (c.requires.stack_in.states (c.args.depth - c.production_length-n.result - 1) (omega arith), rw c.left_side-x.ensures (stack-left-below c.requires.holds c.args.p c.requires.p_lt_p));
    }

pub returns-then-g-eq0 : goal.returns-then-g-eq0
returns-then-g-eq0 c =
    lands-none (tables_of c.args.cells.now) c.args.stack.now c.args.depth ((tables_of c.args.cells.now).lhs c.args.p) ((tables_of c.args.cells.now).len c.args.p) (omega (arith, c.if-depth-n.false, c.production_length-n.ensures)) (sym (rw (c.left_side-x.ensures, c.production_length-n.ensures) at c.goto_at-g.ensures) ∙ c.if-g-eq0.true)

pub returns : goal.returns
returns c =
    let e = sym (rw (c.left_side-x.ensures, c.production_length-n.ensures) at c.goto_at-g.ensures) in
    rw c.production_length-n.ensures
    (lands-goto (tables_of c.args.cells.now) c.args.stack.now c.args.depth ((tables_of c.args.cells.now).lhs c.args.p) ((tables_of c.args.cells.now).len c.args.p) c.goto_at-g.result (omega (arith, c.if-depth-n.false, c.production_length-n.ensures)) (omega (arith, c.if-g-eq0.false)) e, omega arith, goto-below c.requires.holds _ _ c.goto_at-g.result e (omega arith))
