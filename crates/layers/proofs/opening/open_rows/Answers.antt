-- `layers::opening::open_rows` meets its contract. Assumes nothing.
use native.Mathlib.Omega.{arith}
use Prim.Native.Nat.{ℕ}
use lib.ListN.{length-replicate}
use Rattle.layers.specs.OpeningLaws.{first_more, all-rows}
use Rattle.layers.proofs.opening.open_rows.Goals as goal

pub loop-k-init : goal.loop-k-init
loop-k-init c =
    record { size = length-replicate {A = ℕ} 4096 0; unopened = λ j l e. absurd (omega arith) }

pub bounds-rows-k : goal.bounds-rows-k
bounds-rows-k c = omega (arith, c.loop-k.invariant.size)

pub loop-k-preserved : goal.loop-k-preserved
loop-k-preserved c = first_more (omega arith) c.loop-k.invariant c.flag.ensures

pub returns : goal.returns
returns c = all-rows c.requires.small c.loop-k-test.false c.loop-k.invariant
