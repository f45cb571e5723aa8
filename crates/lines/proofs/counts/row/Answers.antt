-- `lines::counts::row` meets its contract: one terminal after the other. Assumes nothing.
use mathlib.Core.Bool.{cond, Bool}
use mathlib.Core.Path.{◌∙◌, ap}
use native.Mathlib.Omega.{arith}
use Rattle.sets.specs.Set.{count_of}
use Rattle.failing.specs.Tests.{fails_in}
use Rattle.lines.specs.CountsLaws.{count-step, count_most, one-most}
use Rattle.lines.specs.Parts.{listed_in}
use borrow.Author.Rules.{rules}
use Rattle.lines.proofs.counts.row.Goals as goal

pub loop-z-init : goal.loop-z-init
unfolding count_of
loop-z-init c = search rules

pub overflow_add-lines : goal.overflow_add-lines
overflow_add-lines c =
    record { fits = omega (arith, count_most (listed_in c.args.cells.now c.args.broken.now c.args.q) c.loop-z.z, one-most c.listed.result) }

pub overflow_add-failing : goal.overflow_add-failing
overflow_add-failing c =
    record { fits = omega (arith, count_most (fails_in c.args.cells.now c.args.dist.now c.args.broken.now c.args.q) c.loop-z.z, one-most c.pair_fails.result) }

pub loop-z-preserved : goal.loop-z-preserved
loop-z-preserved c = (
  count-step (listed_in c.args.cells.now c.args.broken.now c.args.q) _ _ _ c.loop-z.invariant.0 (c.one_if-lines.ensures ∙ ap (λ (b : Bool). cond b 1 0) c.listed.ensures),
  count-step (fails_in c.args.cells.now c.args.dist.now c.args.broken.now c.args.q) _ _ _ c.loop-z.invariant.1 (c.one_if-failing.ensures ∙ ap (λ (b : Bool). cond b 1 0) c.pair_fails.ensures),
)
