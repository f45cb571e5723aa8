-- `book::parts::body_rows` meets its contract: the four parts, one after the other. Assumes nothing.
use Rattle.std.proofs.Common.{refl}
use Rattle.std.specs.Prelude.{Ok}
use Rattle.std.proofs.lemmas.Result.{err_from_is_err_and}
use Rattle.book.specs.PartsLaws.{numbers, after-body}
use Rattle.book.proofs.parts.body_rows.Goals as goal

pub returns-in_err-productions : goal.returns-in_err-productions
returns-in_err-productions c =
    let p = err_from_is_err_and c.from_residual.result c.from_residual.ensures.1 in
    rw (p.1, p.2) (after-body (numbers c.args.source) c.args.d (Ok c.args.head) c.in_err-productions.ensures refl refl refl)

pub returns-in_err-ranks : goal.returns-in_err-ranks
returns-in_err-ranks c =
    let p = err_from_is_err_and c.from_residual-in_err-ranks.result c.from_residual-in_err-ranks.ensures.1 in
    rw (p.1, p.2) (after-body (numbers c.args.source) c.args.d (Ok c.args.head) c.in_ok-productions.ensures c.in_err-ranks.ensures refl refl)

pub returns-in_err-actions : goal.returns-in_err-actions
returns-in_err-actions c =
    let p = err_from_is_err_and c.from_residual-in_err-actions.result c.from_residual-in_err-actions.ensures.1 in
    rw (p.1, p.2) (after-body (numbers c.args.source) c.args.d (Ok c.args.head) c.in_ok-productions.ensures c.in_ok-ranks.ensures c.in_err-actions.ensures refl)

pub returns : goal.returns
returns c =
    after-body (numbers c.args.source) c.args.d (Ok c.args.head) c.in_ok-productions.ensures c.in_ok-ranks.ensures c.in_ok-actions.ensures c.part_row-4.ensures
