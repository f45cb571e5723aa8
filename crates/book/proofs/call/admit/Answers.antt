-- `book::call::admit` meets its contract: step by step. Assumes nothing.
use Rattle.std.proofs.Common.{sym, ◌∙◌, ap, drop_of_length-le, refl}
use Rattle.std.specs.Prelude.{Ok, drop, length}
use Rattle.std.proofs.lemmas.Result.{err_from_is_err_and}
use Rattle.book.specs.Call.{steps}
use Rattle.book.specs.CallLaws.{loop-stops, loop-on}
use Rattle.book.proofs.call.admit.Goals as goal

pub returns-in_err-refuse_if : goal.returns-in_err-refuse_if
returns-in_err-refuse_if c =
    let p = err_from_is_err_and c.from_residual.result c.from_residual.ensures.1 in
    rw (p.1, p.2) (loop-stops c.args.d c.args.refusals.now c.loop-this.this-index _ c.loop-this-test.true c.in_err-refuse_if.ensures ∙ c.loop-this.invariant)

pub loop-this-preserved : goal.loop-this-preserved
loop-this-preserved c = loop-on c.args.d c.args.refusals.now c.loop-this.this-index _ c.loop-this-test.true c.in_ok-refuse_if.ensures ∙ c.loop-this.invariant

pub returns : goal.returns
returns c = rw (drop_of_length-le c.args.refusals.now c.loop-this-test.false) at c.loop-this.invariant
