-- `pieces::pieces::put_piece` meets its contract: the entry that is taken is put. Assumes nothing.
use mathlib.Core.Path.{sym, ◌∙◌}
use Rattle.pieces.specs.PiecesLaws.{second-taken, first_taken}
use Rattle.pieces.proofs.pieces.put_piece.Goals as goal

pub put_entry-requires : goal.put_entry-requires
put_entry-requires c =
    rw (second-taken c.args.first.now c.args.p c.args.second.now c.args.q (sym c.if-second_is_shorter.true ∙ c.second_is_shorter.ensures)) at c.requires

pub returns-then-second_is_shorter : goal.returns-then-second_is_shorter
returns-then-second_is_shorter c =
    rw (second-taken _ _ _ _ (sym c.if-second_is_shorter.true ∙ c.second_is_shorter.ensures)) c.put_entry.ensures

pub put_entry-requires-2 : goal.put_entry-requires-2
put_entry-requires-2 c =
    rw (first_taken c.args.first.now c.args.p c.args.second.now c.args.q (sym c.if-second_is_shorter.false ∙ c.second_is_shorter.ensures)) at c.requires

pub returns : goal.returns
returns c =
    rw (first_taken _ _ _ _ (sym c.if-second_is_shorter.false ∙ c.second_is_shorter.ensures)) c.put_entry-2.ensures
