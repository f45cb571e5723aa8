-- The entries that are taken of two lists, by the places of the states, as bytes. Assumes nothing.
use Rattle.std.specs.Prelude.{Ok, Err, Bool, true, false, cond, List, ◌≡◌, ℕ, zero, suc, ◌+◌, ◌<◌, eqb, ltb, length, get_or, Option, Some, None}
use Rattle.number.specs.Number.{Number, number_at}
use Rattle.items.specs.SpanLaws.{span_at}
use Rattle.sorting.specs.UpTo.{up_to}

-- how many symbols the entry at a place has: the number that stands there
abbrev pub count_of : Number → ℕ
count_of (Err r) = 0
count_of (Ok (n, next)) = n

unfoldable pub symbols_at : List ℕ → ℕ → ℕ
symbols_at bytes place = count_of (number_at bytes place)

-- the second list's entry is taken
unfoldable pub is_shorter : List ℕ → ℕ → List ℕ → ℕ → Bool
is_shorter first p second q = cond (eqb q 0) false (cond (eqb p 0) true (ltb (symbols_at second q) (symbols_at first p)))

-- the bytes of the entry that is taken, and how many entries these are
unfoldable pub piece_at : List ℕ → ℕ → List ℕ → ℕ → List ℕ
piece_at first p second q = cond (is_shorter first p second q) (span_at second q) (span_at first p)

unfoldable pub entry_count : ℕ → ℕ → ℕ
entry_count p q = cond (eqb p 0) (cond (eqb q 0) 0 1) 1

-- those of a state, and of the first states
abbrev pub piece_of : List ℕ → List ℕ → List ℕ → List ℕ → ℕ → List ℕ
piece_of first places second others s = piece_at first (get_or places s 0) second (get_or others s 0)

abbrev pub pieces_to : List ℕ → List ℕ → List ℕ → List ℕ → ℕ → List ℕ
pieces_to first places second others = up_to (piece_of first places second others)

unfoldable pub count_to : List ℕ → List ℕ → ℕ → ℕ
count_to places others zero = 0
count_to places others (suc s) = count_to places others s + entry_count (get_or places s 0) (get_or others s 0)

-- in so much room
abbrev pub Measured : List ℕ → List ℕ → List ℕ → List ℕ → ℕ → ℕ → Option (ℕ × ℕ) → Type 0
Measured first places second others states room (Some (left, count)) =
    (left + length (pieces_to first places second others states) ≡ room) × (count ≡ count_to places others states)
Measured first places second others states room None = room < length (pieces_to first places second others states)
