-- Laws of the whole map, and of what is admitted. Assumes nothing.
use Rattle.std.specs.Prelude.{Ok, List, ◌≡◌, ℕ, ◌*◌, ◌≤◌}
use Rattle.std.proofs.Common.{ltb-false}
use Rattle.number.specs.Lent.{over}
use Rattle.book.specs.Call.{steps}
use Rattle.book.specs.CallLaws.{steps-none}
use Rattle.book.specs.RangeLaws.{Small}
use Rattle.book.specs.declared.Sizes.{Sizes}
use Rattle.walk.specs.Scale.{plain}
use Rattle.layers.specs.Layer.{entry_in}
use Rattle.distances.specs.Distances.{StartTable}
use Rattle.work.specs.Work.{work_cells}
use Rattle.maps.specs.Admitted.{Filled}
use Rattle.maps.specs.Maps.{map_refusals, sets_refusals}
use Rattle.maps.specs.Rows.{rows}
use Rattle.maps.specs.RowsLaws.{rows-length, rows-entry}

-- the rows of the distances from the start are the map
pub rows-map : {d : Sizes} {cells dist lent left : List ℕ} → Small d → StartTable plain d cells dist → left ≡ over (rows dist d.t d.s) lent
    → Filled cells d lent (Ok (d.s * d.t)) left
unfolding entry_in
rows-map {d} {cells} {dist} h x e = record {
  thing = rows dist d.t d.s;
  right = record {
    size = rows-length dist d.t x.size h.terminals d.s h.states;
    exact = λ s z hs hz. rw (rows-entry dist d.t x.size h.terminals d.s s z h.states hs hz) (x.exact s z hs hz);
  };
  same = rw e;
}

-- ---- what is admitted
pub map-admitted : (work lent : ℕ) (d : Sizes) {x : Sizes} → steps (Ok d) (map_refusals work lent d) ≡ Ok x → (work_cells d ≤ work) × (d.s * d.t ≤ lent)
unfolding map_refusals
map-admitted work lent d e = let (same, (room, (enough, end))) = steps-none (map_refusals work lent d) e in (ltb-false _ _ room, ltb-false _ _ enough)

pub sets-admitted : (work masks sizes : ℕ) (d : Sizes) {x : Sizes} → steps (Ok d) (sets_refusals work masks sizes d) ≡ Ok x
    → (work_cells d ≤ work) × (d.s ≤ masks) × (d.s ≤ sizes)
unfolding sets_refusals
sets-admitted work masks sizes d e =
    let (same, (room, (enough, (beside, end)))) = steps-none (sets_refusals work masks sizes d) e in
    (ltb-false _ _ room, ltb-false _ _ enough, ltb-false _ _ beside)
