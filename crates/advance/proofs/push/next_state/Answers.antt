-- `advance::push::next_state` meets its contract. Assumes nothing.
use Rattle.advance.specs.PushLaws.{next-found, next-is}
use Prim.Native.Nat.{◌<◌}
use native.Mathlib.Omega.{arith}
use Rattle.advance.proofs.push.next_state.Goals as goal
use Rattle.advance.proofs.push.next_state.Goals.{After-toward-x}

-- such a goto is found
found : (c : After-toward-x) → c.toward-x.result < c.args.d.n
found c =
    let p = c.requires in
    next-found p.fitted.holds p.nearest.sound p.a_lt_t.1 p.nonzero.0 p.nonzero.1 c.toward-x.ensures

pub goto_at-requires : goal.goto_at-requires
goto_at-requires c =
    record {
      holds = c.requires.fitted.holds;
      q_lt_s = (c.requires.a_lt_t.1, found (goal.at.goto_at-requires c).After-toward-x);
    }

pub overflow_sub-result : goal.overflow_sub-result
overflow_sub-result c =
    omega (arith, c.goto_at.ensures, (c.toward-x.ensures.found (found (goal.at.overflow_sub-result c).After-toward-x)).transition)

pub returns : goal.returns
returns c =
    next-is c.requires.nonzero.0 c.toward-x.ensures (found (goal.at.returns c).After-toward-x) c.goto_at.ensures
