-- `finder::reaching::reach_pair` meets its contract: the least cost to go from the start is exact. Assumes nothing.
use native.Mathlib.Omega.{arith}
use Rattle.distances.specs.SingleLaws.{single-bounded}
use Rattle.finder.specs.PairLaws.{reach-guides, reach-exact}
use Rattle.finder.proofs.reaching.reach_pair.Goals as goal

pub to_goal-requires : goal.to_goal-requires
to_goal-requires c =
    let p = c.requires in
    record {
      holds = p.holds;
      crossing_table = p.crossing_table;
      bounded = single-bounded c.only.ensures p.holds.small.terminals;
      open_rows = c.open_rows.ensures;
    }

pub tell_least-requires : goal.tell_least-requires
tell_least-requires c =
    let p = c.requires in
    let only = c.only.ensures in
    let goal = c.to_goal.ensures in
    let exact = reach-exact p.holds only goal _ p.crossing_table p.s_lt_s.1 c.start_cost-n.ensures in
    record {
      holds = p.holds;
      crossing_table = (p.crossing_table, c.open_rows.ensures);
      arranged = p.arranged;
      guides = reach-guides p.holds only goal p.crossing_table p.s_lt_s.1 _ _;
      layered = (record { cells = omega arith; nonterminal = λ h. absurd (omega (arith, h)) }, exact, p.s_lt_s.1, p.s_lt_s.2);
    }
