-- `judgement::coverage::fails` meets its contract: from each terminal on it is as from the first. Assumes nothing.
use mathlib.Core.Path.{sym, ◌∙◌}
use Rattle.judgement.proofs.CoverageLaws.{some-here, some-on, some-done}
use Rattle.judgement.proofs.coverage.fails.Goals as goal

pub returns-then-pair_fails : goal.returns-then-pair_fails
returns-then-pair_fails c =
    sym (c.loop-z.invariant ∙ some-here _ _ _ c.loop-z-test.true (sym c.pair_fails.ensures ∙ c.if-pair_fails.true))

pub loop-z-preserved : goal.loop-z-preserved
loop-z-preserved c =
    c.loop-z.invariant ∙ some-on _ _ _ c.loop-z-test.true (sym c.pair_fails.ensures ∙ c.if-pair_fails.false)

pub returns : goal.returns
returns c = sym (c.loop-z.invariant ∙ some-done _ _ _ c.loop-z-test.false)
