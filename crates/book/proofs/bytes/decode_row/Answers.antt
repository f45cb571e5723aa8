-- `book::bytes::decode_row` meets its contract: the numbers are stored one by one. Assumes nothing.
use native.Mathlib.Omega.{arith}
use mathlib.Core.Path.{sym, ◌∙◌}
use lib.ListN.{length-set}
use Rattle.book.specs.BytesLaws.{decoded-none, decoded-next, decoded-more, decoded-stop, decoded-done}
use borrow.Author.Rules.{rules}
use Rattle.book.proofs.bytes.decode_row.Goals as goal

pub returns-in_default : goal.returns-in_default
returns-in_default c =
    decoded-stop c.loop-i.invariant.1 c.loop-i-test.true (sym c.read.ensures ∙ c.in_default.is)

pub overflow_cast-cells : goal.overflow_cast-cells
overflow_cast-cells c =
    let n = decoded-next c.loop-i.invariant.1 c.loop-i-test.true (sym c.read.ensures ∙ c.in-Ok.is) in
    omega (arith, n, c.requires.cells c.loop-i.i)

pub loop-i-preserved : goal.loop-i-preserved
loop-i-preserved c =
    (simp length-set c.loop-i.invariant.0, decoded-more c.loop-i.invariant.1 c.loop-i-test.true c.requires.n_in_bounds (sym c.read.ensures ∙ c.in-Ok.is))

pub returns : goal.returns
returns c = decoded-done c.loop-i.invariant.1 c.loop-i-test.false
