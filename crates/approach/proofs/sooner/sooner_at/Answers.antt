-- `approach::sooner::sooner_at` meets its contract. Assumes nothing.
use native.Mathlib.Omega.{arith}
use Rattle.layers.specs.CrossingLaws.{within}
use Rattle.distances.specs.GoalLaws.{sooner-least}
use Rattle.approach.specs.SoonerLaws.{skipped-least}
use Rattle.approach.proofs.sooner.sooner_at.Goals as goal

pub returns-then-a-d : goal.returns-then-a-d
returns-then-a-d c =
    record { least = λ h. absurd (omega (arith, within c.requires.usable.fitted.holds h, c.if-a-d.true)) }

pub returns-then-rows-q-eq0 : goal.returns-then-rows-q-eq0
returns-then-rows-q-eq0 c = record { least = λ h. skipped-least c.requires.usable.skips c.if-rows-q-eq0.true h }

pub returns : goal.returns
returns c = record { least = λ h. sooner-least c.requires.usable.fitted.holds _ h c.toward.ensures }
