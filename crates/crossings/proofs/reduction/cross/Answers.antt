-- `crossings::reduction::cross` meets its contract. Assumes nothing.
use native.Mathlib.Omega.{arith}
use mathlib.Core.Path.{◌∙◌, sym}
use Prim.Native.Nat.{◌-◌}
use Rattle.layers.specs.CrossingLaws.{left_below, row_fits}
use Rattle.crossings.specs.ReductionLaws.{sound-fitted, reduced}
use Rattle.crossings.proofs.reduction.cross.Goals as goal

pub goto_at-requires-clause-q_lt_s : goal.goto_at-requires-clause-q_lt_s
goto_at-requires-clause-q_lt_s c =
    let p = c.requires in (p.q_lt_s.0, (left_below p.sound_table.holds c.left_side-x.ensures p.q_lt_s.3).0)

pub crossing_row-requires-clause-q_lt_s : goal.crossing_row-requires-clause-q_lt_s
crossing_row-requires-clause-q_lt_s c =
    let p = c.requires in (p.q_lt_s.0, (left_below p.sound_table.holds c.left_side-x.ensures p.q_lt_s.3).0, p.q_lt_s.1)

pub lower-requires : goal.lower-requires
lower-requires c =
    let p = c.requires in omega (arith, row_fits (sound-fitted p.sound_table) p.q_lt_s.0 (left_below p.sound_table.holds c.left_side-x.ensures p.q_lt_s.3).0 p.q_lt_s.1 c.crossing_row.ensures, p.q_lt_s.2)

pub returns : goal.returns
returns c =
    let p = c.requires in
    reduced _ (c.goto_at.result - 1) p.sound_table p.q_lt_s.1 p.q_lt_s.2 p.z_value (sym c.production_length.ensures ∙ c.if-production_length-m.false) (omega (arith, c.if-goto_at-eq0.false, rw c.left_side-x.ensures at c.goto_at.ensures)) p.attained (rw (c.crossing_row.ensures, c.left_side-x.ensures) at c.lower.ensures)
