-- `book::tables::action_at` meets its contract. Assumes nothing.
use mathlib.Core.Path.{sym, ◌∙◌}
use Rattle.book.proofs.TablesLaws.{act-inside}
use Rattle.book.proofs.tables.action_at.Goals as goal

pub returns : goal.returns
returns c =
    c.decode.ensures ∙ sym (act-inside c.requires.holds _ _ c.requires.q_lt_s.0 c.requires.q_lt_s.1)
