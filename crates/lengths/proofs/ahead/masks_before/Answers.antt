-- `lengths::ahead::masks_before` meets its contract. Assumes nothing.
use native.Mathlib.Omega.{arith}
use Rattle.lengths.specs.AheadLaws.{masks-more}
use Rattle.lengths.proofs.ahead.masks_before.Goals as goal

pub loop-q-preserved : goal.loop-q-preserved
loop-q-preserved c =
    let h = c.requires.holds in
    masks-more h (omega (arith, c.loop-q-test.true, h.small.states)) c.requires.ahead_masks c.loop-q.invariant c.by_actions-mask.ensures c.by_gotos.ensures
