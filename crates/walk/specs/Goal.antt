-- What a sentence is to come to: a state on top, or a reduction that breaks there. Assumes nothing.
use Rattle.std.specs.Prelude.{Bool, true, false, List, ◌∷◌, ◌≡◌, ℕ}
use Rattle.book.specs.Tables.{Tables}
use Rattle.machine.specs.Machine.{breaks, next}

-- s is on top
pub data Tops (s : ℕ) : ℕ → List ℕ → Type 0 where
  at : {st : List ℕ} → Tops s s st

-- s is on top of a stack on which the step under z is a broken reduction
pub data BreaksAt (B : Tables) (s z : ℕ) : ℕ → List ℕ → Type 0 where
  breaking : {st : List ℕ} → next B (s ∷ st) z ≡ breaks → BreaksAt B s z s st

-- the one or the other
abbrev pub Aim : Tables → Bool → ℕ → ℕ → ℕ → List ℕ → Type 0
Aim B false s z = Tops s
Aim B true s z = BreaksAt B s z
