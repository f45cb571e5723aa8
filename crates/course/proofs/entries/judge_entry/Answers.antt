-- `course::entries::judge_entry` meets its contract: the run of the sentence, then its verdict. Assumes nothing.
use mathlib.Core.Path.{◌≡◌}
use native.Mathlib.Omega.{arith}
use Prim.Native.Nat.{◌+◌, ◌-◌}
use Rattle.course.specs.EntryLaws.{spelled-sound, ran-right, ran-verdict, ran-rest}
use borrow.Author.Rules.{rules}
use Rattle.course.proofs.entries.judge_entry.Goals as goal

pub drive-ending-requires-clause-sentence_value : goal.drive-ending-requires-clause-sentence_value
drive-ending-requires-clause-sentence_value c =
    let len : c.args.e.start + c.args.e.len - c.args.e.start ≡ c.args.e.len = omega arith in rw len (spelled-sound c.requires.spelled)

pub weigh-requires : goal.weigh-requires
weigh-requires c = ran-right c.args.stack.now c.requires.holds c.requires.spelled c.drive-ending.ensures

pub returns-clause-value : goal.returns-clause-value
returns-clause-value c = ran-verdict c.args.stack.now c.requires.holds c.requires.spelled c.drive-ending.ensures _ _ _ _ c.weigh.ensures

pub returns-clause-stack_unchanged : goal.returns-clause-stack_unchanged
returns-clause-stack_unchanged c =
    ran-rest c.args.stack.now c.requires.holds c.requires.spelled c.drive-ending.ensures (search rules) c.requires.in_bounds
