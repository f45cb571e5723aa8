-- `positions::position::mark` meets its contract. Assumes nothing.
use native.Mathlib.Omega.{arith}
use Rattle.positions.specs.PositionLaws.{states-few, positions-kept, positions-set}
use Rattle.layers.specs.CrossingLaws.{states-are}
use Rattle.positions.proofs.position.mark.Goals as goal

pub returns-then-q-d : goal.returns-then-q-d
returns-then-q-d c =
    positions-kept c.args.k c.requires.positions (states-few c.requires.holds) (λ h. absurd (omega (arith, h, c.if-q-d.true, states-are c.requires.holds)))

pub returns-then-not-passes : goal.returns-then-not-passes
returns-then-not-passes c =
    positions-kept c.args.k c.requires.positions (states-few c.requires.holds) (λ h. c.passes.ensures c.if-not-passes.true)

pub returns : goal.returns
returns c =
    positions-set c.args.k c.requires.positions (states-few c.requires.holds) c.requires.k_bound
