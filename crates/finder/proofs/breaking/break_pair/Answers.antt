-- `finder::breaking::break_pair` meets its contract: only a reduce action breaks. Assumes nothing.
use mathlib.Core.Path.{sym, ◌∙◌}
use Rattle.layers.specs.ActionLaws.{reduce-below}
use Rattle.finder.specs.PairLaws.{answered-error, answered-accept, answered-shift}
use Rattle.finder.proofs.breaking.break_pair.Goals as goal

pub break_reduce-requires : goal.break_reduce-requires
break_reduce-requires c =
    let p = c.requires in
    let act = c.action_at.ensures in
    let given = c.in-Reduce.is in
    record {
      holds = p.holds;
      crossing_table = p.crossing_table;
      arranged = p.arranged;
      s_lt_s = p.s_lt_s;
      p_lt_p = (reduce-below _ _ p.holds act given, sym act ∙ given);
    }

pub returns-in-Error : goal.returns-in-Error
returns-in-Error c = answered-error _ c.action_at.ensures c.in-Error.is

pub returns-in-Accept : goal.returns-in-Accept
returns-in-Accept c = answered-accept _ c.action_at.ensures c.in-Accept.is

pub returns-in-Shift : goal.returns-in-Shift
returns-in-Shift c = answered-shift _ c.action_at.ensures c.in-Shift.is
