-- `crossings::production::longer` meets its contract. Assumes nothing.
use native.Mathlib.Omega.{arith}
use Rattle.layers.specs.CrossingLaws.{left_below, length-below}
use Rattle.crossings.proofs.production.longer.Goals as goal

pub goto_at-requires-clause-q_lt_s : goal.goto_at-requires-clause-q_lt_s
goto_at-requires-clause-q_lt_s c =
    (c.requires.q_lt_s.0, (left_below c.requires.holds c.left_side-x.ensures c.requires.q_lt_s.1).0)

pub returns : goal.returns
returns c =
    (omega (arith, c.most.ensures), omega (arith, c.most.ensures, length-below c.requires.holds c.production_length.ensures c.requires.q_lt_s.1, c.requires.q_lt_s.2), λ g e. omega (arith, c.most.ensures, c.production_length.ensures))
