-- The cycle of calls of `waiting::expansion::expand_after`: each call has one layer less that there can be. Assumes nothing.
use native.Mathlib.Omega.{arith}
use mathlib.Core.Path.{◌∙◌, sym}
use Rattle.walk.specs.Scale.{plain}
use Rattle.layers.specs.LayerLaws.{value-off}
use Rattle.layers.specs.StatesLaws.{listed-empty}
use Rattle.waiting.specs.ExpandLaws.{layer-next, step-layer, expands-more, expands-spent}
use Rattle.waiting.proofs.expansion.+expand_after.Goals as goal

pub returns-then-count_on-eq0-clause-by_index : goal.returns-then-count_on-eq0-clause-by_index
returns-then-count_on-eq0-clause-by_index t c =
    let p = c.requires in
    let e = c.lengthen_within.ensures in
    λ g a l.
    expands-spent c.args.at (omega (arith, p.at_bound.1)) p.pends p.at_bound.3 (layer-next p.usable.fitted.holds p.pends l e.lengthened_to) (λ q z. value-off plain _ _ q z (listed-empty e.sized.listed (sym c.count_on.ensures.0 ∙ c.if-count_on-eq0.true) q))

pub returns-clause-by_index : goal.returns-clause-by_index
returns-clause-by_index t c =
    let p = c.requires in
    let e = c.expand_after.ensures in
    λ g a l.
    let next = layer-next p.usable.fitted.holds p.pends l c.lengthen_within.ensures.lengthened_to in
    expands-more c.args.at (step-layer p.usable.fitted.holds p.pends c.args.at p.at_bound.1 p.at_bound.3 next c.pop_layer.ensures.table_step) (e.by_index g a next)
