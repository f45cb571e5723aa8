-- `roads::pair::cost_at` meets its contract. Assumes nothing.
use mathlib.Core.Path.{sym}
use Rattle.walk.specs.Scale.{plain}
use Rattle.layers.specs.LayerLaws.{value-off, value_read}
use Rattle.roads.proofs.pair.cost_at.Goals as goal

pub returns-then-flags-q-eq0 : goal.returns-then-flags-q-eq0
returns-then-flags-q-eq0 c = sym (value-off plain _ _ _ _ c.if-flags-q-eq0.true)

pub returns : goal.returns
returns c = sym (value_read plain _ _ _ _ c.if-flags-q-eq0.false)
