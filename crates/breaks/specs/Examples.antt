-- Small tables whose one reduction breaks on a short stack, breaks for want of a goto, and never breaks. Assumes nothing.
use Rattle.std.specs.Prelude.{List, [], refl, ℕ}
use Rattle.book.specs.Tables.{Tables}
use Rattle.book.specs.declared.Action.TheVariants.{Reduce}
use Rattle.machine.specs.Machine.{next, none, done}
use Rattle.machine.specs.MachineLaws.{clash}
use Rattle.walk.specs.Breaks.{Breaks}

-- one state that reduces, always, a production of this length; its goto is this
abbrev one : ℕ → ℕ → Tables
one length target = record {
  terminals = 1;
  nonterminals = 1;
  states = 1;
  act = λ q a. Reduce 0;
  goto = λ q X. target;
  lhs = λ p. 0;
  len = λ p. length;
}

-- 'if n or fewer states are stacked': one state, and a length of one
pub short-stack : Breaks (one 1 1) [] 0 0
unfolding next
short-stack = record { terminals = none; below = []; run = done; broken = refl }

-- 'or that goto is none'
pub no-goto : Breaks (one 0 0) [] 0 0
unfolding next
no-goto = record { terminals = none; below = []; run = done; broken = refl }

-- neither: the run spins, and no sequence breaks
pub never : (w : List ℕ) → ¬ Breaks (one 0 1) w 0 0
unfolding next
never w b = clash (cc b.broken)
