-- `script::lines::next` is safe, and tells places within the text. Assumes nothing.
use lib.ListN.{length-take}
use native.Mathlib.Omega.{arith}
use Rattle.script.proofs.lines.next.Goals as goal

pub slice_bounds-make-end-3 : goal.slice_bounds-make-end-3
slice_bounds-make-end-3 c = simp length-take (omega arith)
