-- `forms::ranks::put_ranks` meets its contract: rank by rank. Assumes nothing.
use mathlib.Core.Path.{◌≡◌, refl}
use native.Mathlib.Numerals.{add-one}
use native.Mathlib.Omega.{arith}
use Prim.Native.Nat.{◌-◌}
use lib.ListN.{length-set}
use lib.Seq.{paste-zero, paste-suc}
use Rattle.number.specs.Lent.{firsts}
use Rattle.number.specs.LentLaws.{firsts-length, firsts-entry}
use Rattle.book.specs.Tables.{rank_of}
use Rattle.forms.proofs.WritingLaws.{bounds}
use Rattle.forms.proofs.ranks.put_ranks.Goals as goal

pub loop-a-preserved : goal.loop-a-preserved
loop-a-preserved c =
    let rank = rank_of c.args.cells.now in
    let step = paste-suc c.args.to.now c.args.at (firsts rank c.args.d.t) c.loop-a.a 0 (omega (arith, c.loop-a-test.true, c.requires.t_in_bounds)) (omega (arith, firsts-length rank c.args.d.t, c.loop-a-test.true)) in
    (rw (c.loop-a.invariant.0, add-one, c.rank_at.ensures) (rw (firsts-entry rank c.args.d.t c.loop-a.a c.loop-a-test.true) at step), simp length-set c.loop-a.invariant.1)
