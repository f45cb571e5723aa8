-- `layers::row::turn_on` meets its contract. Assumes nothing.
use native.Mathlib.Nat.{le_refl}
use native.Mathlib.Omega.{arith}
use mathlib.Core.Path.{◌∙◌}
use Rattle.walk.specs.FillLaws.{filled-size}
use Rattle.layers.specs.LayerLaws.{on-cleared}
use Rattle.layers.specs.StatesLaws.{listed_more}
use Rattle.layers.proofs.row.turn_on.Goals as goal

pub returns : goal.returns
returns c =
    let s = c.requires.sized in
    record {
      by_index = λ k h z. record { size = rw c.fill.ensures (filled-size _ _ _ _ ∙ z.size); listed = rw c.add_state.ensures (listed_more z.listed c.requires.g_bound c.if-flags-g-ne0.false (le_refl k) h) };
      turned_on = rw c.add_state.ensures (on-cleared _ (omega (arith, s.size)) s.listed c.requires.g_bound c.if-flags-g-ne0.false c.fill.ensures);
    }
