-- `roads::reduction::compare_at` meets its contract. Assumes nothing.
use mathlib.Core.Path.{◌∙◌, sym}
use Rattle.layers.specs.ActionLaws.{reduce-below}
use Rattle.roads.specs.RoadLaws.{far_none, reduction-at}
use Rattle.roads.proofs.reduction.compare_at.Goals as goal

pub returns-then-v-ge-UNREACHED : goal.returns-then-v-ge-UNREACHED
returns-then-v-ge-UNREACHED c = far_none c.requires.marked c.if-v-ge-UNREACHED.true

pub compare-requires-clause-q_lt_s : goal.compare-requires-clause-q_lt_s
compare-requires-clause-q_lt_s c =
    let p = c.requires in
    (p.q_lt_s.0, p.q_lt_s.1, p.q_lt_s.3, reduce-below _ _ p.marked.fitted.holds c.action_at.ensures c.in-Reduce.is)

pub returns-in-Reduce : goal.returns-in-Reduce
returns-in-Reduce c = reduction-at (sym c.action_at.ensures ∙ c.in-Reduce.is) c.compare.ensures
