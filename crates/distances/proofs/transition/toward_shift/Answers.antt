-- `distances::transition::toward_shift` meets its contract. Assumes nothing.
use mathlib.Core.Path.{◌∙◌, sym}
use Rattle.layers.specs.ActionLaws.{shift-below}
use Rattle.distances.specs.GoalLaws.{to-shift}
use Rattle.distances.proofs.transition.toward_shift.Goals as goal

pub past_shift-requires-clause-g_bound : goal.past_shift-requires-clause-g_bound
past_shift-requires-clause-g_bound c =
    ((shift-below _ _ c.requires.holds c.action_at.ensures c.in-Shift.is).1, c.requires.holds.small.terminals)

pub returns-in-Shift : goal.returns-in-Shift
returns-in-Shift c =
    to-shift c.requires.holds c.args.dist.now _ _ (sym c.action_at.ensures ∙ c.in-Shift.is) c.past_shift.ensures
