-- `maps::rows::copy_rows` meets its contract: row after row. Assumes nothing.
use Rattle.maps.specs.RowsLaws.{rowed-none, rowed-more}
use Rattle.maps.proofs.rows.copy_rows.Goals as goal

pub loop-q-init : goal.loop-q-init
loop-q-init c = rowed-none c.requires.0 c.requires.2

pub loop-q-preserved : goal.loop-q-preserved
loop-q-preserved c =
    rowed-more c.requires.0 c.requires.2 c.args.s c.loop-q.invariant c.loop-q-test.true c.requires.1 c.requires.3 c.copy_row.ensures
