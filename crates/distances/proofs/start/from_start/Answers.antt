-- `distances::start::from_start` meets its contract. Assumes nothing.
use native.Mathlib.Omega.{arith}
use Prim.Native.Nat.{ℕ}
use lib.ListN.{length-replicate}
use Rattle.walk.specs.Scale.{plain, unreached}
use Rattle.distances.specs.TableLaws.{table-usable}
use Rattle.distances.specs.StartLaws.{arrived-start, lengthened-whole, arrived-more, settled-more, start-table}
use Rattle.distances.proofs.start.from_start.Goals as goal

pub loop-n-init : goal.loop-n-init
loop-n-init c =
    (length-replicate {A = ℕ} 4096 (unreached plain), arrived-start c.requires.holds c.level.ensures.values_len c.level.ensures.table_step, λ e. absurd (omega (arith, e)))

pub lengthen-requires-clause-usable : goal.lengthen-requires-clause-usable
lengthen-requires-clause-usable c =
    let p = c.requires in table-usable p.holds p.crossing_table p.open_rows

pub loop-n-preserved : goal.loop-n-preserved
loop-n-preserved c =
    let h = c.requires.holds in
    let a = c.loop-n.invariant.1 in
    let l = c.lengthen.ensures in
    let whole = lengthened-whole h _ c.all_on.ensures l.lengthened in
    (l.sized.size, arrived-more h _ a whole c.merge-n.ensures, settled-more h _ a whole c.merge-n.ensures)

pub returns : goal.returns
returns c =
    start-table c.requires.holds c.requires.crossing_table c.loop-n.invariant.1 (c.loop-n.invariant.2 c.loop-n-test.false)
