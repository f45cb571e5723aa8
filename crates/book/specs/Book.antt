-- The table book: what reading it gives, out of bytes and out of cells, and what each call answers and leaves. Assumes nothing.
use Rattle.std.specs.Prelude.{Option, Some, None, Result, Ok, Err, cond, List, [], ◌∷◌, ◌++◌, length, get_or, ℕ, zero, suc, ◌+◌, ltb, leb, eqb}
use Rattle.number.specs.{Lent.over, Number.Number, Number.number_at, Number.written, Number.value, Number.refusal, Number.refused_at}
use Rattle.number.specs.declared.{cause.Cause.Cause, cause.Refusal.Refusal}
use Rattle.book.specs.Range.{fault, part_length}
use Rattle.book.specs.Tables.{sizes_of}
use Rattle.book.specs.declared.{Part.Part, Sizes.Sizes}

-- 'In memory the book is its numbers in order, one 16-bit cell each': what stands at an index, or '1 it stops before a due number is complete'
unfoldable pub cell_at : List ℕ → ℕ → Number
cell_at cells i = cond (ltb i (length cells)) (value (get_or cells i 0) (i + 1)) (refusal Cause.Incomplete i)

-- 'A book is a row of numbers': those read, with the place after them, or the first refusal
pub data Row : Type 0 where
  read : List ℕ → ℕ → Row
  refused : Refusal → Row

-- the row with numbers in front
abbrev pub before : List ℕ → Row → Row
before vs (read ws at) = read (vs ++ ws) at
before vs (refused r) = refused r

-- what stands at a place, refused there where it has a fault
abbrev pub unfaulted : Option Cause → ℕ → Number → Number
unfaulted None at found = found
unfaulted (Some cause) at found = refusal cause at

-- 'each number by 1, 2, its range': what stands at a place, refused there too where it has a fault
abbrev pub admitted : (ℕ → Option Cause) → ℕ → Number → Number
admitted fault at (Err r) = Err r
admitted fault at (Ok (v, next)) = unfaulted (fault v) at (Ok (v, next))

-- one number as a row
abbrev pub single : Number → Row
single (Err r) = refused r
single (Ok (v, next)) = read (v ∷ []) next.at

-- a row, and the one that goes on where it ends
abbrev pub joined : Row → (List ℕ → ℕ → Row) → Row
joined (refused r) rest = refused r
joined (read vs at) rest = before vs (rest vs at)

-- k numbers from a place of the source on, each with its fault after those of its part already seen
unfoldable pub row : (ℕ → Number) → (List ℕ → ℕ → Option Cause) → ℕ → List ℕ → ℕ → Row
row source fault zero seen at = read [] at
row source fault (suc k) seen at = joined (single (admitted (fault seen) at (source at))) (λ vs next. row source fault k (seen ++ vs) next)

-- the numbers of a part
abbrev pub part_in : (ℕ → Number) → Sizes → Part → ℕ → Row
part_in source d part at = row source (fault d part) (part_length d part) [] at

-- parts one after the other
unfoldable pub parts_in : (ℕ → Number) → Sizes → List Part → ℕ → Row
parts_in source d [] at = read [] at
parts_in source d (part ∷ more) at = joined (part_in source d part at) (λ vs next. parts_in source d more next)

-- the parts after the head, whose sizes it says
abbrev pub body : List Part
body = Part.Productions ∷ Part.Ranks ∷ Part.Actions ∷ Part.Gotos ∷ []

-- 'Nothing follows the last goto': the row, where it ends at the end, or '6 something follows the last number'
abbrev pub whole : ℕ → Row → Row
whole end (refused r) = refused r
whole end (read cells at) = cond (ltb at end) (refused (refused_at Cause.Surplus at)) (read cells at)

-- the book that a source holds up to its end: its cells, or the refusal, 'book from the front'. It is its parts one after the other; before
-- the head no sizes are known
unfoldable pub book_in : (ℕ → Number) → ℕ → Row
book_in source end = whole end (joined (part_in source (sizes_of []) Part.Head 0) (λ head at. parts_in source (sizes_of head) body at))

-- the book in bytes, and in cells: 'Every public call that takes cells checks them by the same rules'
unfoldable pub of_bytes : List ℕ → Row
of_bytes bytes = book_in (number_at bytes) (length bytes)

unfoldable pub of_cells : List ℕ → Row
of_cells cells = book_in (cell_at cells) (length cells)

-- the bytes of a row of numbers
abbrev pub bytes_of : List ℕ → List ℕ
bytes_of [] = []
bytes_of (n ∷ cells) = written n ++ bytes_of cells

-- what `check` answers
abbrev pub checked : Row → Result Sizes Refusal
checked (read cells at) = Ok (sizes_of cells)
checked (refused r) = Err r

-- a result at the front of lent memory. 'A writer and the cell reader need at least the length of their result': '12 an output too short',
-- whose place is 0. A refusal 'leaves all lent memory as it found it'
abbrev pub delivered : (List ℕ → List ℕ) → Row → List ℕ → Result ℕ Refusal × List ℕ
delivered f (refused r) lent = (Err r, lent)
delivered f (read cells at) lent =
    let out = f cells in
    cond (leb (length out) (length lent)) (Ok (length out), over out lent)
    (Err (refused_at Cause.Output 0), lent)

-- what `read` answers and leaves in the lent cells
unfoldable pub reading : List ℕ → List ℕ → Result ℕ Refusal × List ℕ
reading bytes cells = delivered (λ c. c) (of_bytes bytes) cells

-- what `write` answers and leaves in the lent bytes
unfoldable pub writing : List ℕ → List ℕ → Result ℕ Refusal × List ℕ
writing cells bytes = delivered bytes_of (of_cells cells) bytes
