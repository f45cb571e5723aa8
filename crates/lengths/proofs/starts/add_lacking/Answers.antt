-- `lengths::starts::add_lacking` meets its contract. Assumes nothing.
use mathlib.Core.Path.{◌∙◌, sym}
use native.Mathlib.Omega.{arith}
use Rattle.lengths.specs.LackingLaws.{lacking-more}
use Rattle.lengths.proofs.starts.add_lacking.Goals as goal

pub returns : goal.returns
returns c =
    let p = c.requires in
    rw c.add_state.ensures (lacking-more p.lacking_on (omega (arith, p.holds.small.states, p.q_lt_s.0)) (sym c.goto_at.ensures ∙ c.if-goto_at-ne0.false))
