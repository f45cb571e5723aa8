-- `advance::push::push_to_shift` meets its contract. Assumes nothing.
use mathlib.Core.Path.{refl}
use native.Mathlib.Omega.{arith}
use Rattle.book.proofs.TablesLaws.{in-range}
use Rattle.layers.specs.CrossingLaws.{terminals-are, states-are}
use Rattle.advance.specs.NearestLaws.{near-low}
use Rattle.advance.specs.PushLaws.{pushed_none, pushed_more, pushed-done}
use Rattle.advance.proofs.push.push_to_shift.Goals as goal

pub loop-g-init : goal.loop-g-init
loop-g-init c =
    pushed_none c.args.to.now c.requires.le_depth.0 c.requires.le_depth.1 refl (omega (arith, states-are c.requires.fitted.holds, c.requires.depth_bound.0)) (near-low c.requires.nearest.sound _ c.requires.depth_bound.1)

pub bounds-to-g : goal.bounds-to-g
bounds-to-g c =
    omega (arith, states-are c.requires.fitted.holds, c.requires.fitted.holds.small.states, c.loop-g.invariant.state)

pub next_state-next-requires : goal.next_state-next-requires
next_state-next-requires c =
    let p = c.requires in
    record {
      fitted = p.fitted;
      a_lt_t = (p.a_lt_t, omega (arith, states-are p.fitted.holds, c.loop-g.invariant.state));
      nearest = p.nearest;
      nonzero = (omega (arith, c.loop-g-test.true), c.loop-g.invariant.near);
    }

pub loop-g-smaller : goal.loop-g-smaller
loop-g-smaller c = omega (arith, c.next_state-next.ensures.nearer)

pub loop-g-preserved : goal.loop-g-preserved
loop-g-preserved c =
    pushed_more c.loop-g.invariant (in-range c.requires.fitted.holds) (omega (arith, terminals-are c.requires.fitted.holds, c.requires.a_lt_t)) c.requires.witnessed c.next_state-next.ensures

pub shift_target-requires : goal.shift_target-requires
shift_target-requires c =
    record {
      holds = c.requires.fitted.holds;
      q_lt_s = (omega (arith, states-are c.requires.fitted.holds, c.loop-g.invariant.state), c.requires.a_lt_t);
      shifts = (c.requires.nearest.sound.shifts _ c.loop-g.invariant.state).0 c.loop-g-test.false;
    }

pub returns : goal.returns
returns c =
    pushed-done c.loop-g.invariant (in-range c.requires.fitted.holds) c.loop-g-test.false c.shift_target.ensures

pub offset_bounds-stack-top : goal.offset_bounds-stack-top
offset_bounds-stack-top c =
    omega (arith, c.loop-g.invariant.room, c.loop-g.invariant.size)

pub bounds-stack-top : goal.bounds-stack-top
bounds-stack-top c =
    omega (arith, c.loop-g.invariant.room, c.loop-g.invariant.size)

pub overflow_add-top : goal.overflow_add-top
overflow_add-top c =
    omega (arith, c.loop-g.invariant.room, c.loop-g.invariant.size)

pub offset_bounds-stack-top-2 : goal.offset_bounds-stack-top-2
offset_bounds-stack-top-2 c =
    omega (arith, c.loop-g.invariant.room, c.loop-g.invariant.size)

pub bounds-stack-top-2 : goal.bounds-stack-top-2
bounds-stack-top-2 c =
    omega (arith, c.loop-g.invariant.room, c.loop-g.invariant.size)

pub overflow_add-result : goal.overflow_add-result
overflow_add-result c =
    omega (arith, c.loop-g.invariant.room, c.loop-g.invariant.size)
