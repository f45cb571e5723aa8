-- `distances::start::merge_state` meets its contract. Assumes nothing.
use native.Mathlib.Omega.{arith}
use mathlib.Core.Path.{sym}
use Rattle.walk.specs.Scale.{plain}
use Rattle.layers.specs.LayerLaws.{value_read}
use Rattle.distances.specs.PassLaws.{merged-store, merged-more}
use Rattle.distances.proofs.start.merge_state.Goals as goal

pub loop-z-preserved : goal.loop-z-preserved
loop-z-preserved c =
    let l = c.loop-z.invariant in merged-more _ _ c.most-n.ensures l (merged-store _ _ _ _ c.requires.0 (omega arith) l.size (sym (value_read plain _ _ _ _ c.requires.3)) c.lower.ensures)
