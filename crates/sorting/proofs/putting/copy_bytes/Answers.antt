-- `sorting::putting::copy_bytes` meets its contract: byte by byte. Assumes nothing.
use native.Mathlib.Omega.{arith}
use lib.ListN.{length-set}
use Rattle.sorting.specs.PutLaws.{put_byte}
use Rattle.sorting.proofs.putting.copy_bytes.Goals as goal

pub loop-i-preserved : goal.loop-i-preserved
loop-i-preserved c =
    let a = c.args in
    let inv = c.loop-i.invariant in
    (rw inv.0 (put_byte a.from.now a.to.now a.start a.at c.loop-i.i (omega arith)), simp length-set inv.1)
