-- `failing::tests::has_cost` meets its contract. Assumes nothing.
use mathlib.Core.Path.{refl}
use Rattle.layers.specs.Layer.{entry_in}
use Rattle.failing.proofs.tests.has_cost.Goals as goal

pub returns : goal.returns
unfolding entry_in
returns c = refl
