-- `pieces::pieces::symbols_at` meets its contract: the number that stands there. Assumes nothing.
use mathlib.Core.Path.{sym}
use Rattle.pieces.specs.PiecesLaws.{symbols-none, symbols-read}
use Rattle.pieces.proofs.pieces.symbols_at.Goals as goal

pub returns-in-Err : goal.returns-in-Err
returns-in-Err c = symbols-none _ _ (sym c.in-Err.ensures)

pub returns-in-Ok : goal.returns-in-Ok
returns-in-Ok c = symbols-read _ _ (sym c.in-Ok.ensures)
