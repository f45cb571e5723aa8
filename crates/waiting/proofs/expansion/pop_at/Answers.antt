-- `waiting::expansion::pop_at` meets its contract. Assumes nothing.
use Rattle.layers.specs.ActionLaws.{reduce-below}
use Rattle.waiting.proofs.expansion.pop_at.Goals as goal

pub pop-requires-clause-p_lt_p : goal.pop-requires-clause-p_lt_p
pop-requires-clause-p_lt_p c =
    let p = c.requires in
    (reduce-below _ _ p.holds c.action_at.ensures c.in-Reduce.is, p.q_lt_s.1, p.q_lt_s.2)
