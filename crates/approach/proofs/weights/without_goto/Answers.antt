-- `approach::weights::without_goto` meets its contract. Assumes nothing.
use mathlib.Core.Path.{sym, ◌∙◌}
use Rattle.walk.specs.Scale.{plain}
use Rattle.approach.specs.WeightsLaws.{row_stays, row-filled}
use Rattle.approach.proofs.weights.without_goto.Goals as goal

pub returns-then-goto_at-eq0 : goal.returns-then-goto_at-eq0
returns-then-goto_at-eq0 c = row_stays plain _ _ _ _ (sym c.goto_at.ensures ∙ c.if-goto_at-eq0.true)

pub returns : goal.returns
returns c =
    c.fill.ensures ∙ row-filled plain _ _ _ _ (λ e. c.if-goto_at-eq0.false (c.goto_at.ensures ∙ e))
