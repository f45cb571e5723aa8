-- `book::bytes::read` meets its contract: what was checked is decoded. Assumes nothing.
use mathlib.Core.Path.{sym, ◌∙◌}
use native.Mathlib.Omega.{arith}
use borrow.Author.Tests.{ltb-false, ltb-true}
use Rattle.std.proofs.lemmas.Result.{err_from_is_err_and}
use Rattle.book.specs.CallLaws.{step-refuses, step-passes}
use Rattle.book.specs.BookLaws.{readable, deliver-stop, deliver-short, deliver-whole, checked-faulty}
use Rattle.book.specs.Book.{of_bytes, reading}
use Rattle.book.specs.RangeLaws.{ranks-few, actions-few, gotos-few, few}
use Rattle.book.specs.WidthLaws.{readable-cells}
use Rattle.book.proofs.bytes.read.Goals as goal

pub body_length-n-requires : goal.body_length-n-requires
unfolding of_bytes
body_length-n-requires c = few (readable _ _ _ (sym c.in_ok-d.ensures)).small

pub overflow_add-n : goal.overflow_add-n
unfolding of_bytes
overflow_add-n c =
    let v = readable _ _ _ (sym c.in_ok-d.ensures) in omega (arith, v.small.terminals, ranks-few c.in_ok-d.d, actions-few _ v.small, gotos-few _ v.small, c.body_length-n.ensures)

pub decode_row-requires : goal.decode_row-requires
unfolding of_bytes
decode_row-requires c =
    let v = readable _ _ _ (sym c.in_ok-d.ensures) in
    record {
      n_in_bounds = ltb-false _ _ (step-passes _ _ _ c.in_ok-refuse_if.ensures);
      cells = rw (← c.body_length-n.ensures) at (readable-cells v);
    }

pub returns-in_err-d : goal.returns-in_err-d
unfolding reading
returns-in_err-d c =
    let book = of_bytes c.args.bytes.now in
    let p = err_from_is_err_and c.from_residual.result c.from_residual.ensures.1 in
    rw (p.1, p.2) (deliver-stop (λ cells. cells) book _ _ (checked-faulty book _ (sym c.in_err-d.ensures)))

pub returns-in_err-refuse_if : goal.returns-in_err-refuse_if
unfolding of_bytes reading
returns-in_err-refuse_if c =
    let v = readable _ _ _ (sym c.in_ok-d.ensures) in
    let p = err_from_is_err_and c.from_residual-in_err-refuse_if.result c.from_residual-in_err-refuse_if.ensures.1 in
    let (short, same) = step-refuses _ _ _ c.in_err-refuse_if.ensures in
    rw (p.1, p.2, same) (deliver-short _ _ _ v.cells v.next v.is (omega (arith, ltb-true _ _ short, v.count, c.body_length-n.ensures)))

pub returns : goal.returns
unfolding of_bytes reading
returns c =
    let v = readable _ _ _ (sym c.in_ok-d.ensures) in
    deliver-whole _ _ _ v.cells v.next _ _ v.is
    (omega (arith, v.count, c.body_length-n.ensures))
    (ltb-false _ _ (step-passes _ _ _ c.in_ok-refuse_if.ensures))
    (rw (← v.numbers, ← c.body_length-n.ensures) c.decode_row.ensures)
