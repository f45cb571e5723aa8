-- The whole map. Assumes nothing.
use Rattle.std.specs.Prelude.{List, length, get_or, ◌≡◌, ℕ, ◌+◌, ◌*◌, ◌<◌}
use Rattle.book.specs.{Tables.tables_of, declared.Sizes.Sizes}
use Rattle.machine.specs.Machine.{Reaches}
use Rattle.walk.specs.{Scale.plain, Cost.Exact}

-- 'The whole map is S × T cells by state, then terminal: the least length, 1,001 for long, 1,002 for unreached'
pub record IsMap (cells : List ℕ) (d : Sizes) (map : List ℕ) : Type 0 where
  pub size : length map ≡ d.s * d.t
  pub exact : (s z : ℕ) → s < d.s → z < d.t → Exact plain (λ w. Reaches (tables_of cells) w z s) (get_or map (s * d.t + z) 0)
