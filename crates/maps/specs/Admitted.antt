-- What the map and the sets answer and leave where they are admitted, but for the work cells. Assumes nothing.
use Rattle.number.specs.declared.cause.Refusal.{Refusal}
use Rattle.std.specs.Prelude.{Result, Ok, List, ℕ, ◌*◌}
use Rattle.number.specs.Lent.{over}
use Rattle.book.specs.Call.{Tells}
use Rattle.book.specs.declared.Sizes.{Sizes}
use Rattle.maps.specs.Maps.{IsSets}
use Rattle.walk.specs.Map.{IsMap}

abbrev pub Filled : List ℕ → Sizes → List ℕ → Result ℕ Refusal → List ℕ → Type 0
Filled cells d lent r left = Tells {Told = Result ℕ Refusal × List ℕ} (IsMap cells d) (λ map. (Ok (d.s * d.t), over map lent)) (r, left)

abbrev pub Gathered : List ℕ → Sizes → List ℕ → List ℕ → Result ℕ Refusal → List ℕ × List ℕ → Type 0
Gathered cells d masks sizes r left =
    Tells {Told = Result ℕ Refusal × (List ℕ × List ℕ)} (λ (sets : List ℕ × List ℕ). IsSets cells d sets.0 sets.1)
    (λ sets. (Ok d.s, (over sets.0 masks, over sets.1 sizes)))
    (r, left)
