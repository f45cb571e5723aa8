-- `judgement::whole::judge_from` meets its contract: the plain cells have the book's tables. Assumes nothing.
use Rattle.forms.proofs.FormsLaws.{plain-holds, plain-tables}
use Rattle.judgement.proofs.whole.judge_from.Goals as goal

pub judge_plain-requires : goal.judge_plain-requires
judge_plain-requires c =
    record {
      holds = rw (c.plain_cells-n.ensures.0, c.plain_sizes.ensures) (plain-holds _ _ c.requires.accepted);
      entries_standing = rw c.plain_sizes.ensures c.requires.entries_standing;
      d_in_bounds = rw c.plain_sizes.ensures c.requires.d_in_bounds;
      in_bounds = c.requires.in_bounds;
    }

pub returns : goal.returns
returns c =
    let e = rw (c.plain_cells-n.ensures.0, c.plain_sizes.ensures) at c.judge_plain.ensures in
    record { judged = rw (plain-tables _ _ c.requires.accepted) at e.judged; beyond = e.beyond; stack_unchanged = e.stack_unchanged }
