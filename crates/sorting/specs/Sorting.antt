-- A list in state order: what sorting it answers and leaves. Assumes nothing.
use Rattle.number.specs.declared.cause.Cause.{Cause}
use Rattle.number.specs.Number.{refused_at}
use Rattle.std.specs.Prelude.{Result, Ok, Err, false, cond, List, [], ◌++◌, length, ℕ, zero, suc, leb}
use Rattle.number.specs.{Lent.over, declared.cause.Refusal.Refusal}
use Rattle.book.specs.Tables.{Tables, tables_of}
use Rattle.lists.specs.List.{Listed, entries, refused, list_in}
use Rattle.items.specs.Items.{Item, items, list_bytes}
use Rattle.course.specs.Course.{Course, fault, clean, course, in_state}
use Rattle.sorting.specs.declared.Unsorted.{Unsorted}

-- 'in ascending order of the state where they fail': what is taken for each of k states from s on
unfoldable pub statewise : (ℕ → List Item) → ℕ → ℕ → List Item
statewise taken zero s = []
statewise taken (suc k) s = taken s ++ statewise taken k (suc s)

-- of these entries all
abbrev pub by_state : Tables → List Item → ℕ → ℕ → List Item
by_state B xs = statewise (λ s. in_state B s xs)

-- the bytes of the list that has these entries in state order
abbrev pub sorted_bytes : Tables → List Item → List ℕ
sorted_bytes B xs = list_bytes (by_state B xs B.states 0)

-- a result that stands at the front of the lent bytes and is told by its length; '12 an output too short', and a refusal 'leaves all lent memory
-- as it found it'
abbrev pub fitted : {Answer : Type 0} → (ℕ → Answer) → (Refusal → Answer) → List ℕ → List ℕ → Answer × List ℕ
fitted count refuse out lent = cond (leb (length out) (length lent)) (count (length out), over out lent) (refuse (refused_at Cause.Output 0), lent)

-- 'A converter sorts any list with no wrong or repeated entry and else gives the old judgement', that in which order does not count
abbrev pub sorted_by : List ℕ → Course → List ℕ → Result ℕ Unsorted × List ℕ
sorted_by out (fault j) lent = (Err (Unsorted.Fault j), lent)
sorted_by out (clean states) lent = fitted Ok (λ r. Err (Unsorted.Refused r)) out lent

-- the refusals of book and list come first
abbrev pub sorted_in : Tables → List ℕ → Listed → List ℕ → Result ℕ Unsorted × List ℕ
sorted_in B bytes (refused r) lent = (Err (Unsorted.Refused r), lent)
sorted_in B bytes (entries es end) lent =
    let xs = items bytes es in
    sorted_by (sorted_bytes B xs) (course false B 0 [] xs) lent

-- what `sort_list` answers and leaves in the lent bytes
unfoldable pub sorts : List ℕ → List ℕ → List ℕ → Result ℕ Unsorted × List ℕ
sorts cells bytes lent = sorted_in (tables_of cells) bytes (list_in cells bytes) lent
