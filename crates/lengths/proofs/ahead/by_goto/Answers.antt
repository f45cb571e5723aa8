-- `lengths::ahead::by_goto` meets its contract. Assumes nothing.
use native.Mathlib.Omega.{arith}
use Rattle.layers.specs.CrossingLaws.{goto-least}
use Rattle.lengths.specs.AheadLaws.{none-by-goto}
use Rattle.lengths.proofs.ahead.by_goto.Goals as goal

pub bounds-after-target : goal.bounds-after-target
bounds-after-target c =
    omega (arith, c.if-target-eq0.false, goto-least c.requires.holds _ _ c.goto_at-target.ensures)

pub returns : goal.returns
returns c = none-by-goto _ _ (omega (arith, c.if-target-eq0.false, c.goto_at-target.ensures))
