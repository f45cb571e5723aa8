-- `lines::state::put_action` meets its contract: only some actions have a line. Assumes nothing.
use mathlib.Core.Path.{sym, ◌∙◌}
use Rattle.lines.specs.StateLaws.{listed-decides, action-none, action-line}
use Rattle.lines.proofs.state.put_action.Goals as goal

pub returns-then-not-listed-clause-action_listed : goal.returns-then-not-listed-clause-action_listed
returns-then-not-listed-clause-action_listed c =
    let p = c.requires in
    action-none (listed-decides _ _ p.s_lt_s.0 p.s_lt_s.1 p.break_table) (sym c.listed.ensures ∙ c.if-not-listed.true)

pub returns-clause-action_listed : goal.returns-clause-action_listed
returns-clause-action_listed c =
    let p = c.requires in
    action-line (listed-decides _ _ p.s_lt_s.0 p.s_lt_s.1 p.break_table) (sym c.listed.ensures ∙ c.if-not-listed.false) c.put_pair.ensures.pair_listed
