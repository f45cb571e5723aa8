-- A range of cells that is filled with one value. Assumes nothing.
use Rattle.std.specs.Prelude.{List, ℕ, zero, suc, ◌+◌, set}

-- n cells from start on become v
unfoldable pub filled : List ℕ → ℕ → ℕ → ℕ → List ℕ
filled l start zero v = l
filled l start (suc n) v = set (filled l start n v) (start + n) v
