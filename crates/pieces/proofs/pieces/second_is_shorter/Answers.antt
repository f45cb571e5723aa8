-- `pieces::pieces::second_is_shorter` meets its contract: a list without an entry first, then the symbols. Assumes nothing.
use Rattle.pieces.specs.PiecesLaws.{second_none, first-none, both-compared}
use Rattle.pieces.proofs.pieces.second_is_shorter.Goals as goal

pub returns-then-q-eq0 : goal.returns-then-q-eq0
returns-then-q-eq0 c = second_none _ _ _ _ c.if-q-eq0.true

pub returns-then-p-eq0 : goal.returns-then-p-eq0
returns-then-p-eq0 c = first-none _ _ _ _ c.if-q-eq0.false c.if-p-eq0.true

pub returns : goal.returns
returns c =
    rw (c.symbols_at.ensures, c.symbols_at-2.ensures) (both-compared _ _ _ _ c.if-q-eq0.false c.if-p-eq0.false)
