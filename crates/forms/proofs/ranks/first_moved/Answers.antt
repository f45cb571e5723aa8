-- `forms::ranks::first_moved` meets its contract: terminal by terminal. Assumes nothing.
use mathlib.Core.Bool.{not}
use mathlib.Core.Path.{◌≡◌, ◌∙◌, sym}
use native.Mathlib.Omega.{arith}
use Prim.Native.Nat.{◌-◌}
use borrow.Author.Tests.{eq-eqb, ne_eqb}
use lib.Dec.{eqb}
use Rattle.book.specs.Tables.{rank_of}
use Rattle.forms.specs.RankLaws.{rank_below, lowest-more, lowest-found, lowest-done}
use Rattle.forms.proofs.WritingLaws.{bounds}
use Rattle.forms.proofs.ranks.first_moved.Goals as goal

pub returns-then-rank_at-a : goal.returns-then-rank_at-a
returns-then-rank_at-a c =
    let other = rw c.rank_at.ensures at c.if-rank_at-a.true in
    sym (c.loop-a.invariant ∙ lowest-found (λ b. not (eqb (rank_of c.args.cells.now b) b)) c.args.d.t c.loop-a.a c.loop-a-test.true (rw (ne_eqb _ _ other)))

pub loop-a-preserved : goal.loop-a-preserved
loop-a-preserved c =
    let same = rw c.rank_at.ensures at c.if-rank_at-a.false in
    (c.loop-a.invariant ∙ lowest-more (λ b. not (eqb (rank_of c.args.cells.now b) b)) c.args.d.t c.loop-a.a c.loop-a-test.true (rw (eq-eqb _ _ same)))

pub returns : goal.returns
returns c =
    let all : c.loop-a.a ≡ c.args.d.t = omega (arith, c.loop-a.auto.a-end, c.loop-a-test.false) in sym all ∙ sym (c.loop-a.invariant ∙ lowest-done _ _ _ c.loop-a-test.false)
