-- `waiting::expansion::rest` meets its contract. Assumes nothing.
use native.Mathlib.Omega.{arith}
use Rattle.waiting.specs.ExpandLaws.{allows-all, allows-within}
use Rattle.waiting.proofs.expansion.rest.Goals as goal

pub returns-then-r-ge-LONG : goal.returns-then-r-ge-LONG
returns-then-r-ge-LONG c = (omega arith, allows-all (omega (arith, c.requires)) (omega (arith, c.requires)))

pub returns : goal.returns
returns c =
    (omega (arith, c.requires, c.saturating_sub.ensures), allows-within (omega (arith, c.if-r-ge-LONG.false)) (omega (arith, c.saturating_sub.ensures)))
