-- Which pairs fail and which break, read off tables of costs. Assumes nothing.
use Rattle.std.specs.Prelude.{Bool, cond, List, ℕ, ltb}
use Rattle.book.specs.Tables.{tables_of}
use Rattle.walk.specs.Scale.{plain, unreached}
use Rattle.layers.specs.Layer.{entry_in}
use Rattle.failing.specs.Failing.{is_error}

-- a table has a cost for the pair
abbrev pub has_cost : List ℕ → ℕ → ℕ → Bool
has_cost table s z = ltb (entry_in table s z) (unreached plain)

-- whether (s, z) fails: by the distance from the start if its action is error, else by the cost of a break
abbrev pub fails_in : List ℕ → List ℕ → List ℕ → ℕ → ℕ → Bool
fails_in cells dist broken s z = cond (is_error ((tables_of cells).act s z)) (has_cost dist s z) (has_cost broken s z)
