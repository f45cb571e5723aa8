-- `judgement::whole::judge_plain` meets its contract: the first fault, or else the states without an entry. Assumes nothing.
use mathlib.Core.Path.{refl}
use native.Mathlib.Omega.{arith}
use Rattle.layers.specs.CrossingLaws.{states-are}
use Rattle.judgement.specs.CoverageLaws.{covered-judged}
use Rattle.judgement.specs.Judgement.{faulty}
use Rattle.judgement.proofs.whole.judge_plain.Goals as goal

pub returns-in-Err : goal.returns-in-Err
returns-in-Err c =
    let f = c.in-Err.ensures.entries_passed in
    record {
      judged = faulty _ f;
      beyond = record { size = refl; rest = λ k h. refl };
      stack_unchanged = c.judge_entries.ensures.stack_unchanged;
    }

pub returns-in-Ok : goal.returns-in-Ok
returns-in-Ok c =
    let f = c.in-Ok.ensures.entries_passed in
    record {
      judged = covered-judged (omega (arith, states-are c.requires.holds, c.requires.holds.small.states)) f.same f.marks c.cover.ensures.covered;
      beyond = c.cover.ensures.beyond;
      stack_unchanged = c.judge_entries.ensures.stack_unchanged;
    }
