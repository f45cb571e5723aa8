-- `walk::add` meets its contract. Assumes nothing.
use mathlib.Core.Path.{sym, ◌∙◌}
use Rattle.walk.specs.Scale.{plain}
use Rattle.walk.proofs.CostLaws.{plus-far-left, plus-far-right, plus-near}
use Rattle.walk.proofs.add.Goals as goal

pub returns-then-x-ge-UNREACHED : goal.returns-then-x-ge-UNREACHED
returns-then-x-ge-UNREACHED c = sym (plus-far-left plain _ _ c.if-x-ge-UNREACHED.true)

pub returns-then-y-ge-UNREACHED : goal.returns-then-y-ge-UNREACHED
returns-then-y-ge-UNREACHED c = sym (plus-far-right plain _ _ c.if-y-ge-UNREACHED.true)

pub returns : goal.returns
returns c =
    c.least.ensures ∙ sym (plus-near plain _ _ c.if-x-ge-UNREACHED.false c.if-y-ge-UNREACHED.false)
