-- `advance::distance::first` meets its contract. Assumes nothing.
use mathlib.Core.Path.{sym, ◌∙◌}
use Rattle.layers.specs.ActionLaws.{error-shiftless, accept-shiftless, reduce-shiftless}
use Rattle.advance.specs.Round.{shifting, other}
use Rattle.advance.proofs.distance.first.Goals as goal

pub returns-in-Shift : goal.returns-in-Shift
returns-in-Shift c = shifting (_, sym c.action_at.ensures ∙ c.in-Shift.is)

pub returns-in-Error : goal.returns-in-Error
returns-in-Error c = other (λ y. error-shiftless c.action_at.ensures c.in-Error.is y.0 y.1)

pub returns-in-Accept : goal.returns-in-Accept
returns-in-Accept c = other (λ y. accept-shiftless c.action_at.ensures c.in-Accept.is y.0 y.1)

pub returns-in-Reduce : goal.returns-in-Reduce
returns-in-Reduce c = other (λ y. reduce-shiftless c.action_at.ensures c.in-Reduce.is y.0 y.1)
