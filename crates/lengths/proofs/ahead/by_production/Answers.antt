-- `lengths::ahead::by_production` meets its contract. Assumes nothing.
use Rattle.layers.specs.CrossingLaws.{left_below}
use Rattle.lengths.specs.AheadLaws.{with-left-side}
use Rattle.lengths.proofs.ahead.by_production.Goals as goal

pub insert-requires : goal.insert-requires
insert-requires c =
    let p = c.requires in (left_below p.holds c.left_side.ensures p.p_lt_p).1

pub returns : goal.returns
returns c = with-left-side _ c.left_side.ensures c.insert.ensures
