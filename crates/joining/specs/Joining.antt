-- Two lists of one book joined: what joining them answers and leaves. Assumes nothing.
use Rattle.number.specs.declared.cause.Refusal.{Refusal}
use Rattle.book.specs.declared.Sizes.{Sizes}
use Rattle.std.specs.Prelude.{Result, Ok, Err, true, cond, List, [], ◌∷◌, length, ℕ, ltb}
use Rattle.book.specs.{Book.of_cells, Book.checked, Tables.Tables, Tables.tables_of}
use Rattle.lists.specs.List.{Listed, entries, refused, list_of}
use Rattle.items.specs.Items.{Item, items, list_bytes}
use Rattle.course.specs.Course.{Course, fault, clean, course, in_state}
use Rattle.sorting.specs.Sorting.{statewise, fitted}
use Rattle.joining.specs.declared.{Unjoined.Unjoined, Which.Which}

-- ---- the entries
-- 'take the entry with fewer symbols; at equal length the first list's': of what each list has for one state
abbrev pub shorter : List Item → List Item → List Item
shorter xs [] = xs
shorter [] (y ∷ ys) = y ∷ ys
shorter (x ∷ xs) (y ∷ ys) = cond (ltb (length y.symbols) (length x.symbols)) (y ∷ ys) (x ∷ xs)

-- 'For each state ..': the entries of k states from s on. 'The result is in state order'
abbrev pub joined : Tables → List Item → List Item → ℕ → ℕ → List Item
joined B xs ys = statewise (λ s. shorter (in_state B s xs) (in_state B s ys))

-- the bytes of the list that has them
abbrev pub joined_bytes : Tables → List Item → List Item → List ℕ
joined_bytes B xs ys = list_bytes (joined B xs ys B.states 0)

-- ---- the call
-- 'Join two lists that are each complete or uncovered, else give back the first list's fault, or the second's if the first has none, and say which
-- list's it is': the courses of both, where order counts. '12 an output too short' comes last
abbrev pub joined_by : List ℕ → Course → Course → List ℕ → Result ℕ Unjoined × List ℕ
joined_by out (fault j) c lent = (Err (Unjoined.Fault Which.First j), lent)
joined_by out (clean states) (fault j) lent = (Err (Unjoined.Fault Which.Second j), lent)
joined_by out (clean states) (clean others) lent = fitted Ok (λ r. Err (Unjoined.Refused r)) out lent

-- the refusals of the lists: 'Of several inputs of one kind the first lent is checked first, and every refusal comes before any other answer'
abbrev pub joined_in : Tables → List ℕ → Listed → List ℕ → Listed → List ℕ → Result ℕ Unjoined × List ℕ
joined_in B first (refused r) second m lent = (Err (Unjoined.ListRefused Which.First r), lent)
joined_in B first (entries es end) second (refused r) lent = (Err (Unjoined.ListRefused Which.Second r), lent)
joined_in B first (entries es end) second (entries fs last) lent =
    let xs = items first es in
    let ys = items second fs in
    joined_by (joined_bytes B xs ys) (course true B 0 [] xs) (course true B 0 [] ys) lent

-- 'book from the front ..; then list'
abbrev pub joined_after : Result Sizes Refusal → Tables → List ℕ → List ℕ → List ℕ → Result ℕ Unjoined × List ℕ
joined_after (Err r) B first second lent = (Err (Unjoined.Refused r), lent)
joined_after (Ok d) B first second lent = joined_in B first (list_of d.t first) second (list_of d.t second) lent

-- what `join_lists` answers and leaves in the lent bytes
unfoldable pub joins : List ℕ → List ℕ → List ℕ → List ℕ → Result ℕ Unjoined × List ℕ
joins cells first second lent = joined_after (checked (of_cells cells)) (tables_of cells) first second lent
