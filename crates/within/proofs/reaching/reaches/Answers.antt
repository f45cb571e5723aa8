-- `within::reaching::reaches` meets its contract: symbol by symbol, it goes on as from the start. Assumes nothing.
use Rattle.machine.specs.AdmissionLaws.{sound-at}
use Rattle.machine.specs.DrivingLaws.{driving-more, driving-halt}
use Rattle.within.proofs.WithinLaws.{brings-by}
use Rattle.within.proofs.ReachingLaws.{bringing-done}
use borrow.Author.Rules.{rules}
use Rattle.within.proofs.reaching.reaches.Goals as goal

pub take_in-requires-clause-a_lt_t : goal.take_in-requires-clause-a_lt_t
take_in-requires-clause-a_lt_t c =
    sound-at c.args.d.t c.args.sentence.now c.loop-taken.taken c.requires.sentence_value c.loop-taken-test.true

pub returns-in-Ended-clause-value : goal.returns-in-Ended-clause-value
returns-in-Ended-clause-value c =
    driving-halt c.loop-taken.invariant.1 (brings-by _ _ _) c.loop-taken-test.true (rw c.in-Ended.is at c.take_in.ensures)

pub loop-taken-preserved : goal.loop-taken-preserved
loop-taken-preserved c =
    let h = rw c.in-Depth.is at c.take_in.ensures in
    (search rules, driving-more c.loop-taken.invariant.1 (brings-by _ _ _) c.loop-taken-test.true h)

pub returns-clause-value : goal.returns-clause-value
returns-clause-value c = bringing-done _ _ _ c.loop-taken.invariant.1 c.loop-taken-test.false c.comes.ensures
