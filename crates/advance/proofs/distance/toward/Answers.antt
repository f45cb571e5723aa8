-- `advance::distance::toward` meets its contract. Assumes nothing.
use native.Mathlib.Omega.{arith}
use borrow.Author.Count.{below_none, below_more}
use Rattle.advance.proofs.distance.toward.Goals as goal

pub loop-x-init : goal.loop-x-init
loop-x-init c = below_none _

pub returns-then-leads : goal.returns-then-leads
returns-then-leads c =
    record { within = omega (arith, c.loop-x-test.true); found = λ h. c.leads.ensures.leads_to c.if-leads.true; before = c.loop-x.invariant }

pub loop-x-preserved : goal.loop-x-preserved
loop-x-preserved c =
    below_more _ _ c.loop-x.invariant (c.leads.ensures.not_leads_to c.if-leads.false)

pub returns : goal.returns
returns c =
    record { within = omega arith; found = λ h. absurd (omega arith); before = λ k h. c.loop-x.invariant k (omega (arith, c.loop-x-test.false)) }
