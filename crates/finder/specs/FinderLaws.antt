-- Laws of what the finder admits. Assumes nothing.
use Rattle.std.specs.Prelude.{Ok, ◌≡◌, ℕ, ◌≤◌, ◌<◌}
use Rattle.std.proofs.Common.{ltb-false, leb-false}
use Rattle.book.specs.Call.{steps}
use Rattle.book.specs.CallLaws.{steps-none}
use Rattle.book.specs.declared.Sizes.{Sizes}
use Rattle.work.specs.Work.{work_cells}
use Rattle.finder.specs.Finder.{pair_refusals}

pub pair-admitted : (s z work buffer : ℕ) (d : Sizes) {x : Sizes} → steps (Ok d) (pair_refusals s z work buffer d) ≡ Ok x
    → (work_cells d ≤ work) × (s < d.s) × (z < d.t) × (1000 ≤ buffer)
unfolding pair_refusals
pair-admitted s z work buffer d e =
    let (same, (state, (lookahead, (room, (enough, end))))) = steps-none (pair_refusals s z work buffer d) e in
    (ltb-false _ _ room, leb-false _ _ state, leb-false _ _ lookahead, ltb-false _ _ enough)
