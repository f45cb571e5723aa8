-- `forms::cells::copy` meets its contract: cell by cell. Assumes nothing.
use mathlib.Core.Path.{◌≡◌}
use native.Mathlib.Numerals.{add-one}
use native.Mathlib.Omega.{arith}
use lib.ListN.{drop, length-set, length-drop}
use lib.Seq.{paste-suc, get_or-drop}
use Rattle.forms.proofs.cells.copy.Goals as goal

pub loop-i-preserved : goal.loop-i-preserved
loop-i-preserved c =
    let step = paste-suc c.args.to.now c.args.at (drop c.args.start c.args.from.now) c.loop-i.i 0 (omega (arith, c.loop-i-test.true, c.requires)) (omega (arith, length-drop c.args.start c.args.from.now, c.loop-i-test.true, c.requires)) in
    (rw (c.loop-i.invariant.0, add-one, ← get_or-drop c.args.start c.args.from.now c.loop-i.i 0) step, simp length-set c.loop-i.invariant.1)
