-- `roads::reduction::compare` meets its contract. Assumes nothing.
use native.Mathlib.Omega.{arith}
use mathlib.Core.Path.{◌∙◌, sym}
use Rattle.layers.specs.Crossing.{claim_in}
use Rattle.layers.specs.CrossingLaws.{left_below, crossing-row-small, row_fits}
use Rattle.roads.specs.RoadLaws.{not-over, lower}
use Rattle.roads.proofs.reduction.compare.Goals as goal

pub crossing_row-requires-clause-q_lt_s : goal.crossing_row-requires-clause-q_lt_s
crossing_row-requires-clause-q_lt_s c =
    let p = c.requires in (p.q_lt_s.0, (left_below p.fitted.holds c.left_side-x.ensures p.q_lt_s.3).0, p.q_lt_s.1)

pub offset_bounds-table-k : goal.offset_bounds-table-k
offset_bounds-table-k c =
    let p = c.requires in
    omega (arith, c.crossing_row.ensures, crossing-row-small _ _ _ _ p.q_lt_s.0 (left_below p.fitted.holds c.left_side-x.ensures p.q_lt_s.3).0 p.q_lt_s.1 p.fitted.holds.small, p.q_lt_s.2, p.fitted.holds.small.terminals)

pub bounds-table-k : goal.bounds-table-k
bounds-table-k c =
    let p = c.requires in
    omega (arith, row_fits p.fitted p.q_lt_s.0 (left_below p.fitted.holds c.left_side-x.ensures p.q_lt_s.3).0 p.q_lt_s.1 c.crossing_row.ensures, p.q_lt_s.2)

pub returns-then-table-k : goal.returns-then-table-k
unfolding claim_in
returns-then-table-k c = not-over (rw (c.crossing_row.ensures, c.left_side-x.ensures) at c.if-table-k.true)

pub returns-then-k-lowest : goal.returns-then-k-lowest
unfolding claim_in
returns-then-k-lowest c =
    lower (sym c.production_length.ensures ∙ c.if-production_length-m.false) (rw (c.crossing_row.ensures, c.left_side-x.ensures)) (omega (arith, rw (c.crossing_row.ensures, c.left_side-x.ensures) at c.if-table-k.false)) c.if-k-lowest.true
