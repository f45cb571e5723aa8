-- `forms::plain::write_front` meets its contract. Assumes nothing.
use native.Mathlib.Omega.{arith}
use lib.ListN.{length-set}
use Rattle.forms.proofs.WritingLaws.{bounds, front-written}
use Rattle.forms.proofs.plain.write_front.Goals as goal

pub copy-requires : goal.copy-requires
copy-requires c =
    let b = bounds _ _ c.requires.accepted in (omega (arith, b.start), rw length-set (omega (arith, c.requires.p_in_bounds)))
