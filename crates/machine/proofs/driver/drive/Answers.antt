-- `machine::driver::drive` meets its contract: symbol by symbol, the run goes on as from its start. Assumes nothing.
use mathlib.Core.List.{[], ◌∷◌}
use Rattle.std.proofs.Common.{◌≡◌, sym, length}
use Rattle.machine.specs.Run.{runs}
use Prim.Native.Nat.{◌-◌}
use native.Mathlib.Omega.{arith}
use Rattle.book.specs.Tables.{tables_of}
use Rattle.machine.specs.AdmissionLaws.{sound-at}
use Rattle.machine.specs.DrivingLaws.{driving-none, driving-more, driving-ended, driving-done, ran-set, runs_by}
use borrow.Author.Rules.{rules}
use Rattle.machine.proofs.driver.drive.Goals as goal

pub take_in-requires : goal.take_in-requires
take_in-requires c =
    record {
      holds = c.requires.holds;
      stack_in = c.loop-taken.invariant.1.settled.stacked;
      a_lt_t = sound-at c.args.d.t c.args.sentence.now c.loop-taken.taken c.requires.sentence_value c.loop-taken-test.true;
    }

pub returns-in-Ended : goal.returns-in-Ended
returns-in-Ended c =
    let x = c.args in
    let B = tables_of x.cells.now in
    let h = rw c.in-Ended.is at c.take_in.ensures in
    ran-set x.stack.now (runs B x.z x.sentence.now 0 (0 ∷ [])) (driving-ended B x.z c.loop-taken.invariant.1 c.loop-taken-test.true h c.clear.ensures)

pub loop-taken-preserved : goal.loop-taken-preserved
loop-taken-preserved c =
    let h = rw c.in-Depth.is at c.take_in.ensures in (search rules, driving-more c.loop-taken.invariant.1 (runs_by _ _) c.loop-taken-test.true h)

pub returns : goal.returns
returns c =
    let x = c.args in
    let B = tables_of x.cells.now in
    let all : c.loop-taken.taken ≡ length x.sentence.now = omega (arith, c.loop-taken.auto.taken-end, c.loop-taken-test.false) in
    ran-set x.stack.now (runs B x.z x.sentence.now 0 (0 ∷ [])) (driving-done B x.z c.loop-taken.invariant.1 c.loop-taken-test.false (rw (sym all) at c.finish.ensures))
