-- `lengths::reduction::reduces` meets its contract. Assumes nothing.
use Rattle.layers.specs.ActionLaws.{reduce-below}
use Rattle.lengths.proofs.reduction.reduces.Goals as goal

pub fails-requires-clause-m_bound : goal.fails-requires-clause-m_bound
fails-requires-clause-m_bound c =
    let p = c.requires in (p.m_bound.0, reduce-below _ _ p.holds c.action_at.ensures c.in-Reduce.is)
