-- `lengths::layer::lower_pair` meets its contract. Assumes nothing.
use mathlib.Core.Path.{refl}
use native.Mathlib.Omega.{arith}
use Rattle.distances.specs.PassLaws.{merged-store}
use Rattle.lengths.specs.LengthsLaws.{turn-stored}
use Rattle.lengths.proofs.layer.lower_pair.Goals as goal

pub returns-clause-table_step : goal.returns-clause-table_step
returns-clause-table_step c =
    let p = c.requires in
    turn-stored c.if-v-ge-UNREACHED.false (c.reduces.ensures.if-true c.if-not-reduces.false) (merged-store _ _ _ _ (omega (arith, p.holds.small.states)) (omega (arith, p.holds.small.terminals)) p.m_bound.3 refl c.lower.ensures).step
