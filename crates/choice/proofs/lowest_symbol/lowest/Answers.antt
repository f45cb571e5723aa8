-- `choice::lowest_symbol::lowest` meets its contract: the row is gone through, and one symbol after the other passed over. Assumes nothing.
use native.Mathlib.Omega.{arith}
use Rattle.choice.specs.ChoiceLaws.{passed-more, passed-found, passed-all}
use Rattle.choice.proofs.lowest_symbol.lowest.Goals as goal

pub returns-then-completes-clause-lowest_by : goal.returns-then-completes-clause-lowest_by
returns-then-completes-clause-lowest_by c =
    let p = c.requires in
    let f = c.completes.ensures in
    passed-found p.arranged c.loop-k.invariant.1 (omega (arith, p.usable.fitted.holds.small.terminals)) c.loop-k-test.true (f.le_a c.if-completes.true)

pub loop-k-preserved : goal.loop-k-preserved
loop-k-preserved c =
    let p = c.requires in
    let f = c.completes.ensures in
    (f.search_room_2, passed-more p.arranged c.loop-k.invariant.1 (omega (arith, p.usable.fitted.holds.small.terminals)) c.loop-k-test.true (f.fact c.if-completes.false))

pub returns-clause-lowest_by : goal.returns-clause-lowest_by
returns-clause-lowest_by c =
    passed-all c.requires.arranged c.loop-k.invariant.1 c.loop-k-test.false
