-- What fits in the buffer of a sentence. Assumes nothing.
use Rattle.std.specs.Prelude.{List, ℕ, ◌≤◌, length}
use Rattle.walk.specs.Scale.{plain}
use Rattle.finder.specs.declared.Found.{Found}
use Rattle.finder.specs.declared.Found.TheVariants.{Unreached, Long, Sentence}

-- a sentence that was found stands in the buffer
abbrev pub Fitting : Found → List ℕ → Type 0
Fitting Unreached buffer = Unit {0}
Fitting Long buffer = Unit {0}
Fitting (Sentence n) buffer = (n ≤ plain.limit) × (n ≤ length buffer)
