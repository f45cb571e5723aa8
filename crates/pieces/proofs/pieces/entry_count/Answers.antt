-- `pieces::pieces::entry_count` meets its contract: by the places that are 0. Assumes nothing.
use Rattle.pieces.specs.PiecesLaws.{count-first, count-second, count_none}
use Rattle.pieces.proofs.pieces.entry_count.Goals as goal

pub returns-then-p-ne0 : goal.returns-then-p-ne0
returns-then-p-ne0 c = count-first _ _ c.if-p-ne0.true

pub returns-then-q-ne0 : goal.returns-then-q-ne0
returns-then-q-ne0 c = count-second _ _ c.if-p-ne0.false c.if-q-ne0.true

pub returns : goal.returns
returns c = count_none _ _ c.if-p-ne0.false c.if-q-ne0.false
