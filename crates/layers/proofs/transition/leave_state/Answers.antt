-- `layers::transition::leave_state` meets its contract. Assumes nothing.
use native.Mathlib.Omega.{arith}
use Prim.Native.Nat.{ℕ}
use lib.ListN.{length-replicate}
use Rattle.book.specs.IndexLaws.{row_below}
use Rattle.layers.specs.LengthenLaws.{leaves-by-list}
use Rattle.layers.specs.StepLaws.{step-zero, step-none}
use Rattle.layers.proofs.transition.leave_state.Goals as goal

pub list_terminals-n-requires : goal.list_terminals-n-requires
list_terminals-n-requires c =
    record {
      t_bound = (c.requires.usable.fitted.holds.small.terminals, omega (arith, c.requires.q_lt_s.0, c.requires.usable.fitted.holds.small.states));
      terminals_len = (length-replicate {A = ℕ} 32 0, length-replicate {A = ℕ} 32 0, length-replicate {A = ℕ} 32 0);
    }

pub returns-then-n-eq0 : goal.returns-then-n-eq0
returns-then-n-eq0 c =
    record {
      sized_2 = c.requires.sized;
      table_step = leaves-by-list c.requires.usable.fitted.holds _ _ _ c.requires.usable.skips c.requires.q_lt_s.3 (rw c.if-n-eq0.true at c.list_terminals-n.ensures) step-zero (step-none (λ q z w (X, hX, (j, hj, e)) h u. omega (arith, hj)));
    }

pub shifts_from-requires : goal.shifts_from-requires
shifts_from-requires c =
    let l = c.list_terminals-n.ensures in
    record {
      holds = c.requires.usable.fitted.holds;
      q_lt_s = (c.requires.q_lt_s.0, omega (arith, l.few, c.requires.usable.fitted.holds.small.terminals), c.requires.q_lt_s.2);
      by_index = (λ j h. (l.each j h).below);
      sized = c.requires.sized;
    }

pub gotos_from-requires : goal.gotos_from-requires
gotos_from-requires c =
    let l = c.list_terminals-n.ensures in
    record {
      fitted = c.requires.usable.fitted;
      q_lt_s = (c.requires.q_lt_s.0, omega (arith, l.few, c.requires.usable.fitted.holds.small.terminals), c.requires.q_lt_s.2);
      by_index = (λ j h. rw (l.each j h).begins (row_below _ _ _ (l.each j h).below));
      sized = c.shifts_from.ensures.sized_2;
    }

pub returns : goal.returns
returns c =
    record {
      sized_2 = c.gotos_from.ensures.sized_2;
      table_step = leaves-by-list c.requires.usable.fitted.holds _ _ _ c.requires.usable.skips c.requires.q_lt_s.3 c.list_terminals-n.ensures c.shifts_from.ensures.table_step c.gotos_from.ensures.table_step;
    }
