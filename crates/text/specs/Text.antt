-- Words in a line. Assumes nothing.
use Rattle.std.specs.Prelude.{List, [], ◌∷◌, ◌++◌, ℕ}

-- each word after a space
abbrev pub spaced : List (List ℕ) → List ℕ
spaced [] = []
spaced (w ∷ ws) = 32 ∷ w ++ spaced ws

-- words with a space between each two, and the line's end
abbrev pub line : List ℕ → List (List ℕ) → List ℕ
line w ws = w ++ spaced ws ++ 10 ∷ []
