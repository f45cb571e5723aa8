-- `advance::distance::nearest` meets its contract. Assumes nothing.
use Rattle.advance.specs.RoundLaws.{rounds-none, rounds-more}
use native.Mathlib.Omega.{arith}
use Rattle.advance.proofs.distance.nearest.Goals as goal

pub loop-n-init : goal.loop-n-init
loop-n-init c = (omega arith, rounds-none c.requires.usable.fitted.holds c.start.ensures)

pub round-n-requires : goal.round-n-requires
round-n-requires c =
    let l = c.loop-n.invariant.1 in
    record {
      usable = c.requires.usable;
      a_lt_t = (c.requires.a_lt_t, l.low c.loop-n-test.true);
      round = l.round;
    }

pub overflow_add-m : goal.overflow_add-m
overflow_add-m c = omega (arith, c.loop-n.invariant.0)

pub loop-n-smaller : goal.loop-n-smaller
loop-n-smaller c = omega (arith, c.loop-n.invariant.1.low c.loop-n-test.true)

pub loop-n-preserved : goal.loop-n-preserved
loop-n-preserved c =
    let m = c.loop-n.invariant.1.low c.loop-n-test.true in (omega (arith, m), rounds-more c.requires.usable.fitted.holds m c.round-n.ensures)

pub returns : goal.returns
returns c = c.loop-n.invariant.1.last c.loop-n-test.false
