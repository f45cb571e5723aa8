-- `distances::start::merge` meets its contract. Assumes nothing.
use native.Mathlib.Omega.{arith}
use Rattle.distances.specs.PassLaws.{merged-done, merged-listed}
use Rattle.distances.proofs.start.merge.Goals as goal

pub returns : goal.returns
returns c =
    merged-listed _ _ c.requires.dist_len.1 (merged-done _ (omega (arith, c.loop-i.auto.i-end, c.count_on-i-end.ensures)) (omega (arith, c.loop-i-test.false, c.count_on-i-end.ensures)) c.loop-i.invariant)
