-- `lengths::reduction::last` meets its contract. Assumes nothing.
use native.Mathlib.Omega.{arith}
use Rattle.layers.specs.CrossingLaws.{length-below}
use Rattle.lengths.proofs.reduction.last.Goals as goal

pub returns-then-left_side-x : goal.returns-then-left_side-x
returns-then-left_side-x c =
    let e = c.production_length-len.ensures in
    let p = c.requires in
    (length-below p.holds e p.p_lt_p, rw c.in-Goto.is (λ m (l, k). omega (arith, k, e)))

pub returns-in-States : goal.returns-in-States
returns-in-States c =
    let e = c.production_length-len.ensures in
    let p = c.requires in
    (omega (arith, length-below p.holds e p.p_lt_p), rw c.in-States.is (λ m k. omega (arith, k, e)))
