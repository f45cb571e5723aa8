-- The row of a book's terminals by rising rank, as the choice of a sentence goes through it. Assumes nothing.
use Rattle.std.specs.Prelude.{cond, List, [], ◌∷◌, ◌≡◌, ℕ, suc, ◌≤◌, ◌<◌, eqb, length, get_or}

-- the index at which a number stands first in a row, or the row's length
unfoldable pub place_in : List ℕ → ℕ → ℕ
place_in [] a = 0
place_in (x ∷ row) a = cond (eqb x a) 0 (suc (place_in row a))

-- a row of 32 whose first t numbers are terminals, every one but the end mark among them
pub record Arranged (t : ℕ) (order : List ℕ) : Type 0 where
  pub size : length order ≡ 32
  pub terminals : (k : ℕ) → k < t → get_or order k 0 < t
  pub stands : (a : ℕ) → 1 ≤ a → a < t → place_in order a < t
