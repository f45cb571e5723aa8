-- The work cells that a search is lent. Assumes nothing.
use Rattle.std.specs.Prelude.{List, replicate, ℕ, ◌+◌, ◌*◌}
use Rattle.number.specs.Lent.{over}
use Rattle.book.specs.declared.Sizes.{Sizes}

-- 'Its work cells are the first T × T × S × (N + 8) lent, 16 bits each, and are zero afterwards'
abbrev pub work_cells : Sizes → ℕ
work_cells d = d.t * d.t * d.s * (d.n + 8)

abbrev pub cleared : Sizes → List ℕ → List ℕ
cleared d work = over (replicate (work_cells d) 0) work
