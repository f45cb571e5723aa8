-- What the map and the sets answer and leave. Assumes nothing.
use Rattle.number.specs.declared.cause.Cause.{Cause}
use Rattle.number.specs.declared.cause.Refusal.{Refusal}
use Rattle.std.specs.Prelude.{Result, Ok, Err, Bool, true, List, [], ◌∷◌, length, get_or, ◌↔◌, ◌≡◌, ℕ, ◌*◌, ◌<◌, ltb}
use Rattle.number.specs.Lent.{over}
use Rattle.book.specs.{Book.of_cells, Book.checked, Call.admits, Call.Concludes, Tables.tables_of}
use Rattle.book.specs.declared.{Sizes.Sizes}
use Rattle.machine.specs.Machine.{Reaches}
use Rattle.sets.specs.Set.{set_of, count_of}
use Rattle.walk.specs.Map.{IsMap}
use Rattle.work.specs.Work.{work_cells, cleared}

-- the refusals of the whole map after the book's: 'S × T cells'
unfoldable pub map_refusals : ℕ → ℕ → Sizes → List (Bool × Cause × ℕ)
map_refusals work lent d = (ltb work (work_cells d), Cause.Room, 0) ∷ (ltb lent (d.s * d.t), Cause.Output, 0) ∷ []

-- those of the sets: a mask and a size for each state
unfoldable pub sets_refusals : ℕ → ℕ → ℕ → Sizes → List (Bool × Cause × ℕ)
sets_refusals work masks sizes d = (ltb work (work_cells d), Cause.Room, 0) ∷ (ltb masks d.s, Cause.Output, 0) ∷ (ltb sizes d.s, Cause.Output, 0) ∷ []

-- the whole map, by `IsMap`
abbrev pub Maps : List ℕ → List ℕ → List ℕ → Result ℕ Refusal × (List ℕ × List ℕ) → Type 0
Maps cells work lent =
    Concludes (admits (checked (of_cells cells)) (map_refusals (length work) (length lent))) Err (work, lent)
    (IsMap cells)
    (λ d map. (Ok (d.s * d.t), (cleared d work, over map lent)))

-- 'For each state the reached lookaheads, long ones too, are also given as a 32-bit set, bit z for terminal z, and how many lookaheads are
-- in the set is given beside it': a pair is reached if some sequence, however long, reaches it
pub record IsSets (cells : List ℕ) (d : Sizes) (masks sizes : List ℕ) : Type 0 where
  pub reached : ℕ → ℕ → Bool
  pub decides : (s z : ℕ) → s < d.s → z < d.t → (reached s z ≡ true) ↔ ((w : List ℕ) × Reaches (tables_of cells) w z s)
  pub many : length masks ≡ d.s
  pub mask : (s : ℕ) → s < d.s → get_or masks s 0 ≡ set_of (reached s) d.t
  pub beside : length sizes ≡ d.s
  pub size : (s : ℕ) → s < d.s → get_or sizes s 0 ≡ count_of (reached s) d.t

abbrev pub Gathers : List ℕ → List ℕ → List ℕ → List ℕ → Result ℕ Refusal × (List ℕ × (List ℕ × List ℕ)) → Type 0
Gathers cells work masks sizes =
    Concludes (admits (checked (of_cells cells)) (sets_refusals (length work) (length masks) (length sizes))) Err (work, (masks, sizes))
    (λ d (sets : List ℕ × List ℕ). IsSets cells d sets.0 sets.1)
    (λ d sets. (Ok d.s, (cleared d work, (over sets.0 masks, over sets.1 sizes))))
