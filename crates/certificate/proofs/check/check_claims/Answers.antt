-- `certificate::check::check_claims` meets its contract: condition by condition. Assumes nothing.
use mathlib.Core.Path.{refl, sym}
use native.Mathlib.Nat.{zero-add}
use native.Mathlib.Omega.{arith}
use Rattle.certificate.proofs.FaultLaws.{index-fits, searched-fault, searched-none, range-searched, roads-searched, after-range}
use Rattle.certificate.specs.declared.Condition.TheVariants.{Range, Roads}
use Rattle.certificate.proofs.check.check_claims.Goals as goal

pub first_over-i-requires : goal.first_over-i-requires
first_over-i-requires c = index-fits c.requires

pub returns-then-i-top : goal.returns-then-i-top
returns-then-i-top c =
    searched-fault Range (λ k i h x. omega arith) (range-searched c.requires c.first_over-i.ensures) (sym (zero-add _)) c.if-i-top.true

pub returns-then-j-top : goal.returns-then-j-top
returns-then-j-top c =
    let held = after-range c.requires c.first_over-i.ensures c.if-i-top.false in
    searched-fault Roads held (roads-searched c.requires refl c.lowest_road-j.ensures) (sym (zero-add _)) c.if-j-top.true

pub check_pairs-requires-clause-hold_to : goal.check_pairs-requires-clause-hold_to
check_pairs-requires-clause-hold_to c =
    let held = after-range c.requires c.first_over-i.ensures c.if-i-top.false in
    searched-none Roads held (roads-searched c.requires refl c.lowest_road-j.ensures) c.if-j-top.false
