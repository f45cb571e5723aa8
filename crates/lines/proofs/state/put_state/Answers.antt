-- `lines::state::put_state` meets its contract: one terminal after the other. Assumes nothing.
use mathlib.Core.Path.{◌≡◌, sym, ◌∙◌}
use native.Mathlib.Omega.{arith}
use Rattle.layers.specs.CrossingLaws.{terminals-are}
use Rattle.lines.specs.StateLaws.{lines_none, lines_more, lines-done}
use borrow.Author.Rules.{rules}
use Rattle.lines.proofs.state.put_state.Goals as goal

pub loop-z-init : goal.loop-z-init
loop-z-init c = (search rules, lines_none)

pub loop-z-preserved : goal.loop-z-preserved
loop-z-preserved c =
    (c.put_action-next.auto.sentence ∙ c.loop-z.invariant.0, lines_more c.loop-z.invariant.1 c.put_action-next.auto.out c.put_action-next.ensures.action_listed c.put_action-next.ensures.upper_bound)

pub returns-clause-state_listed : goal.returns-clause-state_listed
returns-clause-state_listed c =
    let all : c.loop-z.z ≡ c.args.d.t = omega arith in
    lines-done c.loop-z.invariant.1 (all ∙ sym (terminals-are c.requires.holds))
