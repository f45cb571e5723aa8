-- `advance::distance::turn` meets its contract. Assumes nothing.
use native.Mathlib.Omega.{arith}
use Rattle.book.proofs.TablesLaws.{goto-some}
use Rattle.layers.specs.CrossingLaws.{terminal}
use Rattle.advance.specs.NearestLaws.{skipped-leads}
use Rattle.advance.specs.Round.{kept, given}
use Rattle.advance.proofs.distance.turn.Goals as goal

pub returns-then-to-q : goal.returns-then-to-q
returns-then-to-q c =
    record {
      upper_bound = omega arith;
      turn = kept (λ e X a. c.if-to-q.true e);
    }

pub returns-then-rows-q-eq0 : goal.returns-then-rows-q-eq0
returns-then-rows-q-eq0 c =
    let p = c.requires in
    record {
      upper_bound = omega arith;
      turn = kept (λ e X. skipped-leads (terminal p.usable.fitted.holds p.a_lt_t.0) p.usable.skips c.if-rows-q-eq0.true);
    }

pub returns-then-x-d : goal.returns-then-x-d
returns-then-x-d c =
    record {
      upper_bound = omega arith;
      turn = kept (λ e X a. c.toward-x.ensures.before X (omega (arith, (goto-some c.requires.usable.fitted.holds c.args.q X a.target a.transition).1, c.if-x-d.true)) a);
    }

pub returns : goal.returns
returns c =
    record {
      upper_bound = omega arith;
      turn = given c.if-to-q.false (c.toward-x.ensures.found (omega (arith, c.toward-x.ensures.within, c.if-x-d.false)));
    }
