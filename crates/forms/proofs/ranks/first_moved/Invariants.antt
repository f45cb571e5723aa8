use mathlib.Core.Bool.{not}
use mathlib.Core.Path.{◌≡◌}
use Prim.Native.Nat.{◌-◌, ◌≤◌}
use lib.Dec.{eqb}
use Rattle.book.specs.Tables.{rank_of}
use Rattle.forms.specs.Forms.{lowest}
use Rattle.forms.proofs.ranks.first_moved.Given as goal

abbrev pub invariant-loop-a : goal.invariant-loop-a
invariant-loop-a l = (lowest (λ b. not (eqb (rank_of l.cells b) b)) l.d.t 0 ≡ lowest (λ b. not (eqb (rank_of l.cells b) b)) (l.d.t - l.a) l.a)
