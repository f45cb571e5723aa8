-- `waiting::expansion::pop` meets its contract. Assumes nothing.
use native.Mathlib.Omega.{arith}
use Rattle.layers.specs.CrossingLaws.{left_below}
use Rattle.waiting.proofs.expansion.pop.Goals as goal

pub lower-requires-clause-k_bound : goal.lower-requires-clause-k_bound
lower-requires-clause-k_bound c =
    let p = c.requires in
    (omega arith, (left_below p.holds c.left_side-x.ensures p.p_lt_p.0).1, omega (arith, p.p_lt_p.1, p.holds.small.terminals))
