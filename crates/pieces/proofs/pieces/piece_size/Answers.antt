-- `pieces::pieces::piece_size` meets its contract: that of the entry that is taken. Assumes nothing.
use mathlib.Core.Path.{sym, ◌∙◌}
use Rattle.pieces.specs.PiecesLaws.{second-taken, first_taken}
use Rattle.pieces.proofs.pieces.piece_size.Goals as goal

pub returns-then-second_is_shorter : goal.returns-then-second_is_shorter
returns-then-second_is_shorter c =
    rw (second-taken _ _ _ _ (sym c.if-second_is_shorter.true ∙ c.second_is_shorter.ensures)) c.entry_size.ensures

pub returns : goal.returns
returns c =
    rw (first_taken _ _ _ _ (sym c.if-second_is_shorter.false ∙ c.second_is_shorter.ensures)) c.entry_size-2.ensures
