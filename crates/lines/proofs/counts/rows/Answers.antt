-- `lines::counts::rows` meets its contract: one state after the other. Assumes nothing.
use native.Mathlib.Omega.{arith}
use Rattle.failing.specs.Tests.{fails_in}
use Rattle.lines.specs.Counts.{pairs_of}
use Rattle.lines.specs.Parts.{listed_in}
use Rattle.lines.specs.CountsLaws.{pairs-step, pairs-few, count_most}
use borrow.Author.Rules.{rules}
use Rattle.lines.proofs.counts.rows.Goals as goal

pub loop-q-init : goal.loop-q-init
unfolding pairs_of
loop-q-init c = search rules

pub overflow_add-lines : goal.overflow_add-lines
overflow_add-lines c =
    record { fits = omega (arith, pairs-few (listed_in c.args.cells.now c.args.broken.now) c.args.d c.loop-q.q c.requires.small (omega arith), count_most (listed_in c.args.cells.now c.args.broken.now c.loop-q.q) c.args.d.t, c.requires.small.terminals) }

pub overflow_add-failing : goal.overflow_add-failing
overflow_add-failing c =
    record { fits = omega (arith, pairs-few (fails_in c.args.cells.now c.args.dist.now c.args.broken.now) c.args.d c.loop-q.q c.requires.small (omega arith), count_most (fails_in c.args.cells.now c.args.dist.now c.args.broken.now c.loop-q.q) c.args.d.t, c.requires.small.terminals) }

pub loop-q-preserved : goal.loop-q-preserved
loop-q-preserved c = (
  pairs-step (listed_in c.args.cells.now c.args.broken.now) _ _ _ _ c.loop-q.invariant.0 c.row-more.ensures.lines_value,
  pairs-step (fails_in c.args.cells.now c.args.dist.now c.args.broken.now) _ _ _ _ c.loop-q.invariant.1 c.row-more.ensures.failing_value,
)
