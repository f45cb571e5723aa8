-- The sum of a list: what falls with every store of less. Assumes nothing.
use Rattle.std.specs.Prelude.{List, [], ◌∷◌, ℕ, ◌+◌}

unfoldable pub total : List ℕ → ℕ
total [] = 0
total (x ∷ l) = x + total l
