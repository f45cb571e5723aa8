-- `lines::counts::header_counts` meets its contract: the costs tell which pairs have a line and which fail. Assumes nothing.
use Rattle.failing.specs.FailingLaws.{fails-decides}
use Rattle.lines.specs.StateLaws.{listed-decides}
use Rattle.lines.proofs.counts.header_counts.Goals as goal

pub returns : goal.returns
returns c =
    let p = c.requires in
    record { listed = _; decides-line = λ s z hs hz. listed-decides s z hs hz p.break_table; fails = _; decides = λ s z hs hz. fails-decides p.holds s z hs hz p.start_table p.break_table; all = c.rows.ensures.lines_value; pairs = c.rows.ensures.failing_value }
