-- What lent memory holds after a call that wrote at its front. Assumes nothing.
use Rattle.std.specs.Prelude.{List, [], ◌∷◌, ◌++◌, ℕ, zero, suc, length, drop}

-- a result at the front; what lies after it keeps its values
abbrev pub over : List ℕ → List ℕ → List ℕ
over out lent = out ++ drop (length out) lent

-- the first n numbers of a function
unfoldable pub firsts : (ℕ → ℕ) → ℕ → List ℕ
firsts f zero = []
firsts f (suc n) = firsts f n ++ (f n ∷ [])
