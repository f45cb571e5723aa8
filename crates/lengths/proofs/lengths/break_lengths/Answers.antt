-- `lengths::lengths::break_lengths` meets its contract. Assumes nothing.
use Rattle.lengths.specs.TableLaws.{break-table}
use Rattle.lengths.proofs.lengths.break_lengths.Goals as goal

pub returns : goal.returns
returns c =
    let p = c.requires in break-table p.holds p.crossing_table _ _ c.short_breaks.ensures.to_len c.all_far_breaks.ensures.table_step c.short_breaks.ensures.table_step
