-- `judgement::coverage::lowest_lacking` meets its contract: from each state on it is as from the first. Assumes nothing.
use mathlib.Core.Path.{sym, ◌∙◌}
use Rattle.judgement.specs.CoverageLaws.{lowest-here, lowest-on, lowest-done}
use Rattle.judgement.proofs.coverage.lowest_lacking.Goals as goal

pub returns-then-lacks : goal.returns-then-lacks
returns-then-lacks c =
    sym (c.loop-q.invariant ∙ lowest-here _ _ _ c.loop-q-test.true (sym c.lacks.ensures ∙ c.if-lacks.true))

pub loop-q-preserved : goal.loop-q-preserved
loop-q-preserved c =
    c.loop-q.invariant ∙ lowest-on _ _ _ c.loop-q-test.true (sym c.lacks.ensures ∙ c.if-lacks.false)

pub returns : goal.returns
returns c = sym (c.loop-q.invariant ∙ lowest-done _ _ _ c.loop-q-test.false)
