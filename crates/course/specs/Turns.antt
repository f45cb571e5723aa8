-- What the functions that take the entries in turn promise. Assumes nothing.
use Rattle.std.specs.Prelude.{Bool, cond, not, List, [], ◌∷◌, ◌≡◌, ℕ, ◌≤◌, ◌<◌, eqb, ltb, length, get_or, Result, Ok, Err, ⊤}
use Rattle.number.specs.declared.Cursor.{Cursor}
use Rattle.book.specs.Range.{among}
use Rattle.book.specs.Tables.{Tables}
use Rattle.machine.specs.declared.Ending.{Ending}
use Rattle.lists.specs.Entry.{entry_at}
use Rattle.lists.specs.List.{Listed, entries, refused, entries_at}
use Rattle.lists.specs.declared.Entry.{Entry}
use Rattle.items.specs.Items.{Item, item_of, items}
use Rattle.course.specs.Course.{is_right, state_of, in_state, Course, fault, clean, course}
use Rattle.course.specs.declared.Judgement.{Judgement}
use Rattle.course.specs.declared.Judgement.TheVariants.{Wrong, OutOfOrder, Repeat}

-- the states that have an entry have a place
pub record Marks (places states : List ℕ) : Type 0 where
  pub size : length places ≡ 128
  pub flag : (s : ℕ) → s < 128 → eqb (get_or places s 0) 0 ≡ not (among s states)

-- what stands at the place of a state in which these entries fail: 0 for none, or the one
pub data PlaceOf (t : ℕ) (bytes : List ℕ) : ℕ → List Item → Type 0 where
  none : PlaceOf t bytes 0 []
  one : {place : ℕ} {e : Entry} {next : Cursor} → 1 ≤ place → entry_at t bytes place ≡ Ok (e, next) → PlaceOf t bytes place (item_of bytes e ∷ [])

-- the places of all states
abbrev pub Places : Tables → ℕ → List ℕ → List Item → List ℕ → Type 0
Places B t bytes xs places = (s : ℕ) → s < 128 → PlaceOf t bytes (get_or places s 0) (in_state B s xs)

-- one entry, by the places of the states before it; no state below `least` is in order
unfoldable pub weighed : ℕ → ℕ → ℕ → List ℕ → Ending → Result ℕ Judgement
weighed i len least places ending =
    cond (is_right len ending)
    (cond (ltb (state_of ending) least) (Err (OutOfOrder i))
    (cond (eqb (get_or places (state_of ending) 0) 0) (Ok (state_of ending)) (Err (Repeat i))))
    (Err (Wrong i ending))

-- entries over t terminals stand from an offset on, which the count is before
pub record EntriesStanding (t : ℕ) (bytes : List ℕ) (first count : ℕ) : Type 0 where
  pub es : List Entry
  pub end : ℕ
  pub ahead : entries_at t bytes count first ≡ entries es end
  pub after : 1 ≤ first

-- what they say
abbrev pub items_of : List ℕ → Listed → List Item
items_of bytes (refused r) = []
items_of bytes (entries es end) = items bytes es

abbrev pub items_at : ℕ → List ℕ → ℕ → ℕ → List Item
items_at t bytes first count = items_of bytes (entries_at t bytes count first)

-- entries without a fault: the states that have one, and the places
pub record Clean (B : Tables) (t : ℕ) (bytes : List ℕ) (xs : List Item) (c : Course) (places : List ℕ) : Type 0 where
  pub states : List ℕ
  pub same : c ≡ clean states
  pub marks : Marks places states
  pub kept : Places B t bytes xs places

-- the course that they take, and what is known after all of them
abbrev pub course_at : Bool → Tables → ℕ → List ℕ → ℕ → ℕ → Course
course_at ordered B t bytes first count = course ordered B 0 [] (items_at t bytes first count)

abbrev pub EntriesPassed : Bool → Tables → ℕ → List ℕ → ℕ → ℕ → List ℕ → Result ⊤ Judgement → Type 0
EntriesPassed ordered B t bytes first count places (Err j) = course_at ordered B t bytes first count ≡ fault j
EntriesPassed ordered B t bytes first count places (Ok u) = Clean B t bytes (items_at t bytes first count) (course_at ordered B t bytes first count) places
