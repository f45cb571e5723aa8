-- `search::ends::bare_at` meets its contract. Assumes nothing.
use native.Mathlib.Omega.{arith}
use mathlib.Core.Path.{ap, sym, ◌∙◌}
use Prim.Native.Nat.{ℕ}
use lib.Dec.{eqb}
use Rattle.book.specs.Tables.{tables_of}
use Rattle.search.specs.EndsLaws.{bare-state}
use Rattle.search.proofs.ends.bare_at.Goals as goal

pub returns : goal.returns
returns c =
    ap (λ (x : ℕ). eqb x 0) c.goto_at.ensures ∙ sym (bare-state (tables_of c.args.cells.now) c.args.left c.args.stack.now c.args.kept c.args.n (omega (arith, c.if-n-kept.false)) c.requires.left_lt_n.1.inside)
