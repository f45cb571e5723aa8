-- `approach::sooner::sooner` meets its contract. Assumes nothing.
use Rattle.approach.specs.SoonerLaws.{sooner-layer, sooner-bounded}
use Rattle.approach.proofs.sooner.sooner.Goals as goal

pub returns-clause-bounded_2 : goal.returns-clause-bounded_2
returns-clause-bounded_2 c =
    let p = c.requires in sooner-bounded p.usable.fitted.holds c.loop-k-test.false c.loop-k.invariant c.loop-k.auto.k-end p.bounded

pub returns-clause-sooner_layer : goal.returns-clause-sooner_layer
returns-clause-sooner_layer c = sooner-layer c.requires.usable.fitted.holds c.loop-k-test.false c.loop-k.invariant
