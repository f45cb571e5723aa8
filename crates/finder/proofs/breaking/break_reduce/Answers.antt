-- `finder::breaking::break_reduce` meets its contract: the least cost to go from the start is that of the shortest break. Assumes nothing.
use native.Mathlib.Omega.{arith}
use Rattle.layers.specs.CrossingLaws.{left_below, length-below}
use Rattle.finder.specs.PairLaws.{broken-guides, broken-exact}
use Rattle.finder.proofs.breaking.break_reduce.Goals as goal

pub start_cost-n-requires : goal.start_cost-n-requires
start_cost-n-requires c =
    let p = c.requires in
    let short = length-below p.holds c.production_length-len.ensures p.p_lt_p.0 in
    (omega (arith, p.s_lt_s.1), p.holds.small.terminals, omega (arith, short, c.to_break.ensures.due_len))

pub tell_least-requires : goal.tell_least-requires
tell_least-requires c =
    let p = c.requires in
    let len = c.production_length-len.ensures in
    let left = c.left_side-left.ensures in
    let costs = c.to_break.ensures.to_break in
    let room = c.to_break.ensures.due_len in
    let e = p.p_lt_p.1 in
    let hz = p.s_lt_s.1 in
    let short = length-below p.holds len p.p_lt_p.0 in
    let low = left_below p.holds left p.p_lt_p.0 in
    let exact = broken-exact p.holds p.crossing_table hz e _ _ costs (rw len at c.start_cost-n.ensures) in
    record {
      holds = p.holds;
      crossing_table = (p.crossing_table, c.open_rows.ensures);
      arranged = p.arranged;
      guides = rw (len, left) (broken-guides p.holds p.crossing_table hz e costs);
      layered = (record { cells = omega (arith, short, room); nonterminal = λ h. low.0 }, exact, hz, p.s_lt_s.2);
    }
