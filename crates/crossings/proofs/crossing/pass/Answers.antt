-- `crossings::crossing::pass` meets its contract. Assumes nothing.
use native.Mathlib.Omega.{arith}
use mathlib.Core.Path.{◌≡◌}
use Prim.Native.Nat.{◌+◌, ◌-◌}
use Rattle.crossings.specs.FallingLaws.{pass-more}
use Rattle.crossings.specs.PassLaws.{kept-join}
use Rattle.crossings.proofs.crossing.pass.Goals as goal

pub loop-q-preserved : goal.loop-q-preserved
loop-q-preserved c =
    let turn : c.args.d.s - (c.loop-q.q - 1) ≡ c.args.d.s - c.loop-q.q + 1 = omega arith in
    let state : c.args.d.s - 1 - (c.args.d.s - c.loop-q.q) ≡ c.loop-q.q - 1 = omega arith in
    (rw turn (pass-more _ _ kept-join c.most-n.ensures c.loop-q.invariant.0 (rw state c.cross_state.ensures.pass)), c.cross_state.ensures.scratch_2)
