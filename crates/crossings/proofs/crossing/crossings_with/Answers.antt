-- `crossings::crossing::crossings_with` meets its contract. Assumes nothing.
use native.Mathlib.Omega.{arith}
use Rattle.crossings.specs.PassLaws.{beyond-none, beyond-join, beyond-filled}
use Rattle.crossings.specs.CrossingsLaws.{sound-filled, closed_all, table-exact}
use Rattle.crossings.proofs.crossing.crossings_with.Goals as goal

pub loop-lowered-init : goal.loop-lowered-init
loop-lowered-init c =
    (sound-filled c.requires.holds _ c.requires.d_in_bounds c.fill.ensures, beyond-none, λ e. absurd (omega (arith, e)), c.requires.scratch)

pub loop-lowered-preserved : goal.loop-lowered-preserved
loop-lowered-preserved c =
    let r = c.pass-lowered.ensures.pass in (r.keeps.sound, beyond-join c.loop-lowered.invariant.1 r.keeps.beyond, λ e. closed_all r.keeps.sound.holds _ (r.done e), c.pass-lowered.ensures.scratch_2)

pub returns-clause-crossing_table : goal.returns-clause-crossing_table
returns-clause-crossing_table c =
    table-exact c.loop-lowered.invariant.0 (c.loop-lowered.invariant.2 c.loop-lowered-test.false)

pub returns-clause-beyond : goal.returns-clause-beyond
returns-clause-beyond c =
    beyond-join (beyond-filled _ _ c.fill.ensures) c.loop-lowered.invariant.1
