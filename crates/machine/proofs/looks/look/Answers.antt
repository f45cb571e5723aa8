-- `machine::looks::look` meets its contract: by the action of the top state. Assumes nothing.
use Rattle.book.specs.Tables.{tables_of}
use mathlib.Core.Path.{sym, ◌∙◌}
use Prim.Native.Nat.{◌-◌}
use native.Mathlib.Omega.{arith}
use Rattle.machine.specs.StackLaws.{look-next, stack-reduce-below, stack-shift-below}
use Rattle.machine.proofs.looks.look.Goals as goal

pub reduction-requires : goal.reduction-requires
reduction-requires c =
    record {
      holds = c.requires.holds;
      stack_in = c.requires.stack_in;
      p_lt_p = stack-reduce-below c.requires.holds _ _ _ (sym c.action_at.ensures ∙ c.in-Reduce.is);
    }

pub returns-in-Error : goal.returns-in-Error
returns-in-Error c =
    sym (look-next (tables_of c.args.cells.now) c.args.stack.now c.args.depth c.args.a _ c.requires.stack_in.some (sym c.action_at.ensures ∙ c.in-Error.is))

pub returns-in-Accept : goal.returns-in-Accept
returns-in-Accept c =
    sym (look-next (tables_of c.args.cells.now) c.args.stack.now c.args.depth c.args.a _ c.requires.stack_in.some (sym c.action_at.ensures ∙ c.in-Accept.is))

pub returns-in-Shift : goal.returns-in-Shift
returns-in-Shift c =
    let e = sym c.action_at.ensures ∙ c.in-Shift.is in
    (sym (look-next (tables_of c.args.cells.now) c.args.stack.now c.args.depth c.args.a _ c.requires.stack_in.some e), stack-shift-below c.requires.holds _ _ _ e)

pub returns-in-Reduce : goal.returns-in-Reduce
returns-in-Reduce c =
    rw (look-next (tables_of c.args.cells.now) c.args.stack.now c.args.depth c.args.a _ c.requires.stack_in.some (sym c.action_at.ensures ∙ c.in-Reduce.is)) c.reduction.ensures
