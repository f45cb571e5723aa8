-- A list of sentences: what reading it gives, and what each call answers. Assumes nothing.
use Rattle.std.specs.Prelude.{Result, Option, Ok, Err, Some, None, cond, List, [], ◌∷◌, length, ℕ, zero, suc, ◌-◌, ltb, eqb}
use Rattle.number.specs.{Number.Number, Number.number_at, Number.refused_at, declared.Cursor.Cursor, declared.cause.Cause.Cause, declared.cause.Refusal.Refusal}
use Rattle.book.specs.{Book.Row, Book.admitted, Book.of_cells, Tables.sizes_of}
use Rattle.lists.specs.Entry.{outside, entry_at}
use Rattle.lists.specs.declared.{Entry.Entry, Rest.Rest}

-- the entries of a list in order, with the offset after them, or the first refusal
pub data Listed : Type 0 where
  entries : List Entry → ℕ → Listed
  refused : Refusal → Listed

abbrev pub before : Entry → Listed → Listed
before e (entries es at) = entries (e ∷ es) at
before e (refused r) = refused r

-- an entry, and the list that goes on after it
abbrev pub followed : Result (Entry × Cursor) Refusal → (ℕ → Listed) → Listed
followed (Err r) rest = refused r
followed (Ok (e, next)) rest = before e (rest next.at)

-- k entries from an offset on
unfoldable pub entries_at : ℕ → List ℕ → ℕ → ℕ → Listed
entries_at t bytes zero at = entries [] at
entries_at t bytes (suc k) at = followed (entry_at t bytes at) (λ next. entries_at t bytes k next)

-- 'the count of entries, 0 to 128'; '9 a list has over 128 entries'
abbrev pub count_fault : ℕ → Option Cause
count_fault = outside 0 129 Cause.Entries

-- 'nothing after': '6 something follows the last number'
abbrev pub closed : ℕ → Listed → Listed
closed end (refused r) = refused r
closed end (entries es at) = cond (ltb at end) (refused (refused_at Cause.Surplus at)) (entries es at)

-- the count was read
abbrev pub after_count : ℕ → List ℕ → Number → Listed
after_count t bytes (Err r) = refused r
after_count t bytes (Ok (n, next)) = closed (length bytes) (entries_at t bytes n next.at)

-- 'A list is numbers as in a book: the count of entries, 0 to 128; for each its length, symbols and lookahead; nothing after.'
unfoldable pub list_of : ℕ → List ℕ → Listed
list_of t bytes = after_count t bytes (admitted count_fault 0 (number_at bytes 0))

-- 'Order: book from the front ..; then list or sentence likewise': the list against the book that the cells hold
abbrev pub against : Row → List ℕ → Listed
against (Row.refused r) bytes = refused r
against (Row.read cells at) bytes = list_of (sizes_of cells).t bytes

unfoldable pub list_in : List ℕ → List ℕ → Listed
list_in cells bytes = against (of_cells cells) bytes

-- the offset after a number that was read
abbrev pub after : Number → ℕ
after (Err r) = 0
after (Ok (v, next)) = next.at

-- what `check_list` answers: where the first entry begins and how many there are, or the refusal
abbrev pub listing : List ℕ → Listed → Result Rest Refusal
listing bytes (refused r) = Err r
listing bytes (entries es at) = Ok (record { at = after (number_at bytes 0); left = length es })

-- entry k of those that a list has, counted from 0
abbrev pub entry_of : List Entry → ℕ → Option Entry
entry_of [] k = None
entry_of (e ∷ es) zero = Some e
entry_of (e ∷ es) (suc k) = entry_of es k

-- what `nth_entry` answers
abbrev pub nth_in : ℕ → Listed → Result (Option Entry) Refusal
nth_in k (refused r) = Err r
nth_in k (entries es at) = Ok (entry_of es k)

-- 'gives its entries one after another and says how many remain; after the last it gives none'. A reader's list is checked, so that
-- each of its symbols and lookaheads is below 32, the most terminals that a book has
abbrev pub given : ℕ → Result (Entry × Cursor) Refusal → Option (Entry × Rest)
given left (Err r) = None
given left (Ok (e, next)) = Some (e, record { at = next.at; left = left - 1 })

unfoldable pub next_at : List ℕ → ℕ → ℕ → Option (Entry × Rest)
next_at bytes at left = cond (eqb left 0) None (given left (entry_at 32 bytes at))
