-- `distances::transition::toward_goto` meets its contract. Assumes nothing.
use native.Mathlib.Omega.{arith}
use Rattle.layers.specs.CrossingLaws.{goto-least, row_fits}
use Rattle.distances.specs.GoalLaws.{to-goto}
use Rattle.distances.proofs.transition.toward_goto.Goals as goal

pub past_goto-requires-clause-g_bound : goal.past_goto-requires-clause-g_bound
past_goto-requires-clause-g_bound c =
    let p = c.requires in
    (omega (arith, goto-least p.fitted.holds _ _ c.goto_at-target.ensures), p.fitted.holds.small.terminals, row_fits p.fitted p.q_lt_s.0 p.q_lt_s.2 p.q_lt_s.1 c.crossing_row-start.ensures)

pub returns : goal.returns
returns c =
    to-goto c.requires.fitted.holds c.args.dist.now _ _ _ c.args.table.now (omega (arith, c.goto_at-target.ensures)) c.crossing_row-start.ensures c.past_goto.ensures
