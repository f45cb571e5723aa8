-- `distances::to_goals::pass` meets its contract. Assumes nothing.
use native.Mathlib.Omega.{arith}
use mathlib.Core.Path.{◌≡◌}
use Prim.Native.Nat.{◌+◌, ◌-◌}
use Rattle.crossings.specs.FallingLaws.{pass-more, pass-done}
use Rattle.distances.specs.PassLaws.{distance-pass-idle, drawn-join}
use Rattle.distances.proofs.to_goals.pass.Goals as goal

pub loop-q-init : goal.loop-q-init
loop-q-init c = (distance-pass-idle c.requires.bounded (λ j h. absurd (omega arith)), c.requires.marked)

pub loop-q-preserved : goal.loop-q-preserved
loop-q-preserved c =
    let more : c.args.d.s - (c.loop-q.q - 1) ≡ c.args.d.s - c.loop-q.q + 1 = omega arith in
    let here : c.loop-q.q - 1 ≡ c.args.d.s - 1 - (c.args.d.s - c.loop-q.q) = omega arith in
    (rw more (pass-more _ _ drawn-join c.most-n.ensures c.loop-q.invariant.0 (rw here at c.approach_state.ensures.pass)), c.approach_state.ensures.marked_2)

pub returns-clause-pass : goal.returns-clause-pass
returns-clause-pass c = pass-done _ (omega arith) (omega arith) c.loop-q.invariant.0
