-- `distances::to_goals::approach` meets its contract. Assumes nothing.
use native.Mathlib.Omega.{arith}
use Prim.Native.Nat.{◌<◌}
use native.Mathlib.Nat.{le_trans}
use Rattle.layers.specs.CrossingLaws.{terminals-are, terminal}
use Rattle.distances.specs.PassLaws.{distance-pass-idle, pass-store}
use Rattle.distances.specs.GoalLaws.{nearest, nearest-skipped, sooner-attained, marked-store}
use Rattle.distances.proofs.to_goals.approach.Goals as goal

pub returns-then-rows-q-eq0-clause-pass : goal.returns-then-rows-q-eq0-clause-pass
returns-then-rows-q-eq0-clause-pass c =
    let p = c.requires in
    distance-pass-idle p.bounded (nearest-skipped _ _ p.usable.skips c.if-rows-q-eq0.true (terminal p.usable.fitted.holds p.q_lt_s.1) p.bounded)

pub returns-then-v-ge-UNREACHED-clause-pass : goal.returns-then-v-ge-UNREACHED-clause-pass
returns-then-v-ge-UNREACHED-clause-pass c =
    let p = c.requires in
    let h = terminal p.usable.fitted.holds p.q_lt_s.1 in
    distance-pass-idle p.bounded (nearest p.usable.fitted.holds _ h c.toward-v.ensures (le_trans (p.bounded.most _ _ h) c.if-v-ge-UNREACHED.true))

pub returns : goal.returns
returns c =
    let p = c.requires in
    let b = p.usable.fitted.holds.small in
    let q : c.args.q < 128 = omega (arith, p.q_lt_s.0, b.states) in
    let h = terminal p.usable.fitted.holds p.q_lt_s.1 in
    let t = c.toward-v.ensures in
    record {
      pass = pass-store _ _ _ (omega (arith, terminals-are p.usable.fitted.holds, b.terminals)) q h (sooner-attained p.usable.fitted.holds _ h t) p.bounded (λ l. nearest p.usable.fitted.holds _ h t l) c.lower.ensures;
      marked_2 = marked-store p.marked _ _ _ b.terminals q p.q_lt_s.1 c.lower.ensures;
    }
