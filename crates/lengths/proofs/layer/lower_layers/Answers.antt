-- `lengths::layer::lower_layers` meets its contract. Assumes nothing.
use mathlib.Core.Path.{sym, ◌∙◌}
use native.Mathlib.Nat.{le_antisymm}
use native.Mathlib.Numerals.{add-one}
use Rattle.walk.specs.Scale.{plain}
use Rattle.layers.specs.LayerLaws.{value-off}
use Rattle.layers.specs.StatesLaws.{listed-empty}
use Rattle.layers.specs.StepLaws.{step-zero, step-more}
use Rattle.lengths.specs.StartsLaws.{from-here, from-longer}
use Rattle.lengths.specs.LengthsLaws.{ending-layer, ending-last, ending-empty}
use Rattle.lengths.proofs.layer.lower_layers.Goals as goal

pub loop-m-init : goal.loop-m-init
loop-m-init c =
    let p = c.requires in (p.sized.0, p.next_len.0, p.next_len.1, from-here p.sized.1, step-zero)

pub returns-then-count_on-eq0-clause-table_step : goal.returns-then-count_on-eq0-clause-table_step
returns-then-count_on-eq0-clause-table_step c =
    let i = c.loop-m.invariant in
    let none = sym c.count_on.ensures.0 ∙ c.if-count_on-eq0.true in
    ending-empty c.requires.usable.fitted.holds i.3 (λ q z. value-off plain _ _ q z (listed-empty i.0.listed none q)) i.4

pub loop-m-preserved : goal.loop-m-preserved
loop-m-preserved c =
    let i = c.loop-m.invariant in
    let e = c.longer_layer.ensures in
    let l = c.lower_layer.ensures in
    (e.sized.0, e.sized.1, l.to_len, rw add-one (from-longer i.3 e.lengthened), step-more _ _ i.4 (ending-layer c.requires.usable.fitted.holds i.3 l.table_step))

pub returns-clause-table_step : goal.returns-clause-table_step
returns-clause-table_step c =
    let i = c.loop-m.invariant in
    let h = c.requires.usable.fitted.holds in
    let same = le_antisymm c.loop-m.auto.m-end c.loop-m-test.false in
    ending-last h c.requires.last_failing (step-more _ _ (rw same at i.4) (ending-layer h (rw same at i.3) c.lower_layer-2.ensures.table_step))
