-- Rows of a fixed array one after the other. Assumes nothing.
use Rattle.std.specs.Prelude.{List, [], ◌++◌, ℕ, zero, suc, ◌*◌, take, drop}

-- the first t entries of row q; rows stand 32 cells apart
abbrev pub row : List ℕ → ℕ → ℕ → List ℕ
row from t q = take t (drop (q * 32) from)

-- those of each of the first s rows
unfoldable pub rows : List ℕ → ℕ → ℕ → List ℕ
rows from t zero = []
rows from t (suc s) = rows from t s ++ row from t s
