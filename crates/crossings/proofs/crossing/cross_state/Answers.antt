-- `crossings::crossing::cross_state` meets its contract. Assumes nothing.
use Rattle.crossings.specs.FallingLaws.{pass-more}
use Rattle.crossings.specs.PassLaws.{kept-join}
use Rattle.crossings.proofs.crossing.cross_state.Goals as goal

pub loop-a-preserved : goal.loop-a-preserved
loop-a-preserved c =
    (pass-more _ _ kept-join c.most-n.ensures c.loop-a.invariant.0 c.cross_from.ensures.pass, c.cross_from.ensures.scratch_2)
