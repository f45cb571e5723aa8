-- Reading and writing a book undo each other, and what is written are bytes. Assumes nothing.
use Rattle.std.specs.Prelude.{Option, Ok, ◌≡◌, refl, ℕ, zero, suc, ◌+◌, ◌/◌, ◌%◌, ◌≤◌, ◌<◌, length, get_or, drop}
use Rattle.std.proofs.Common.{sym, ◌∙◌, add_assoc, add-zero, zero-add, add-one, arith, lt-ltb, le-ltb, eq-eqb, length-append, drop_of_length-le, drop-cons, drop-drop, get_or-drop}
use mathlib.Core.List.{List, [], ◌∷◌, ◌++◌, append_assoc, append-nil, nil≢cons}
use Rattle.std.proofs.Math.Decide.{dec_lt}
use Rattle.std.proofs.Math.Seq.{drop-append_seam}
use Rattle.number.specs.Number.{Number, number_at, groups, written, first, value}
use Rattle.number.specs.NumberLaws.{Bytes, first-written, first-stands}
use Rattle.number.specs.TestLaws.{tests}
use Rattle.number.specs.declared.cause.Cause.{Cause}
use Rattle.number.specs.declared.Cursor.{Cursor}
use Rattle.book.specs.Book.{cell_at, read, row, parts_in, body, book_in, of_bytes, of_cells, bytes_of}
use Rattle.book.specs.BookLaws.{book-whole}
use Rattle.book.specs.PartsLaws.{parts-empty, parts-front}
use Rattle.book.specs.Range.{fault, part_length}
use Rattle.book.specs.RowLaws.{row-front, row-empty}
use Rattle.book.specs.Tables.{sizes_of}
use Rattle.book.specs.declared.Part.{Part}
use Rattle.book.specs.declared.Part.TheVariants.{Head}
use Rattle.book.specs.declared.Sizes.{Sizes}

-- the elements of a slice of cells
abbrev pub Cells : List ℕ → Type 0
Cells s = (i : ℕ) → get_or s i 0 < 65536

-- the numbers that a source has from a place up to another
data Reads (source : ℕ → Number) : ℕ → List ℕ → ℕ → Type 0 where
  none : {at : ℕ} → Reads source at [] at
  more : {at v next : ℕ} {vs : List ℕ} (cursor : Cursor) → source at ≡ Ok (v, cursor) → Reads source cursor.at vs next → Reads source at (v ∷ vs) next

-- ---- a row that one source has, any other that has its numbers has too
row_reads : (source : ℕ → Number) (fault : List ℕ → ℕ → Option Cause) (k : ℕ) (seen : List ℕ) (at : ℕ) (vs : List ℕ) (next : ℕ) → row source fault k seen at ≡ read vs next
    → Reads source at vs next
row_reads source fault zero seen at vs next e = let (p, q) = row-empty source fault seen at vs next e in rw (← p, ← q) none
row_reads source fault (suc k) seen at vs next e =
    let f = row-front source fault k seen at vs next e in
    rw f.split (more f.cursor f.found (row_reads source fault k (seen ++ (f.v ∷ [])) f.cursor.at f.rest next f.onward))

reads-row : {other : ℕ → Number} {at' next' : ℕ} {vs : List ℕ} (source : ℕ → Number) (fault : List ℕ → ℕ → Option Cause) (k : ℕ) (seen : List ℕ) (at next : ℕ)
    → row source fault k seen at ≡ read vs next → Reads other at' vs next' → row other fault k seen at' ≡ read vs next'
unfolding row
reads-row source fault zero seen at next e none = refl
reads-row source fault zero seen at next e (more {v} {vs} c f r) = absurd (nil≢cons (row-empty source fault seen at (v ∷ vs) next e).0)
reads-row source fault (suc k) seen at next e none = absurd (nil≢cons (row-front source fault k seen at [] next e).split)
reads-row source fault (suc k) seen at next e (more {v} {vs} c f r) =
    let g = row-front source fault k seen at (v ∷ vs) next e in
    let h : g.v ≡ v = cc (sym g.split) in
    let j : g.rest ≡ vs = cc (sym g.split) in
    let onward = reads-row source fault k (seen ++ (v ∷ [])) g.cursor.at next (rw (h, j) at g.onward) r in
    rw (f, (rw h at g.clean), onward)

-- some of the numbers, and then the others
reads-split : {source : ℕ → Number} {at next : ℕ} (a b : List ℕ) → Reads source at (a ++ b) next
    → (mid : ℕ) × Reads source at a mid × Reads source mid b next
reads-split {at} [] b r = (at, none, r)
reads-split (v ∷ a) b (more c f r) = let (mid, p, q) = reads-split a b r in (mid, more c f p, q)

reads-join : {source : ℕ → Number} {at mid next : ℕ} {a b : List ℕ} → Reads source at a mid → Reads source mid b next → Reads source at (a ++ b) next
reads-join none q = q
reads-join (more c f p) q = more c f (reads-join p q)

reads_nothing : {source : ℕ → Number} {at next : ℕ} {vs : List ℕ} → [] ≡ vs → Reads source at vs next → read [] at ≡ read vs next
reads_nothing e none = refl
reads_nothing e (more c f r) = absurd (nil≢cons e)

-- ---- so do parts
module _ (source : ℕ → Number) (d : Sizes) where
  parts-reads : (parts : List Part) (at : ℕ) (vs : List ℕ) (next : ℕ) → parts_in source d parts at ≡ read vs next → Reads source at vs next
  parts-reads [] at vs next e = let (p, q) = parts-empty source d at vs next e in rw (← p, ← q) none
  parts-reads (part ∷ others) at vs next e =
      let f = parts-front source d part others at vs next e in
      rw f.both
      (reads-join (row_reads source (fault d part) (part_length d part) [] at f.front f.mid f.first)
      (parts-reads others f.mid f.back next f.second))

  reads-parts : {other : ℕ → Number} {vs : List ℕ} (at' next' : ℕ) (parts : List Part) (at next : ℕ) → parts_in source d parts at ≡ read vs next
      → Reads other at' vs next' → parts_in other d parts at' ≡ read vs next'
  unfolding parts_in
  reads-parts {other} {vs} at' next' [] at next e r = reads_nothing (parts-empty source d at vs next e).0 r
  reads-parts {other} {vs} at' next' (part ∷ others) at next e r =
      let f = parts-front source d part others at vs next e in
      let (mid, p, q) = reads-split f.front f.back (rw f.both at r) in
      let first = reads-row source (fault d part) (part_length d part) [] at f.mid f.first p in
      rw (first, reads-parts {vs = f.back} mid next' others f.mid next f.second q, ← f.both)

-- ---- so does a book
book-other : (source other : ℕ → Number) (end end' : ℕ) (cells : List ℕ) (next next' : ℕ)
    → book_in source end ≡ read cells next → Reads other 0 cells next' → end' ≤ next' → book_in other end' ≡ read cells next'
unfolding book_in
book-other source other end end' cells next next' e r h =
    let w = book-whole source end cells next e in
    let (mid, p, q) = reads-split w.head w.rest (rw w.both at r) in
    let f = reads-row source (fault (sizes_of []) Head) 5 [] 0 w.at w.first p in
    let g = reads-parts source (sizes_of w.head) mid next' body w.at next w.second q in
    rw (f, g, le-ltb next' end' h, ← w.both)

book-reads : (source : ℕ → Number) (end : ℕ) (cells : List ℕ) (next : ℕ) → book_in source end ≡ read cells next → Reads source 0 cells next
book-reads source end cells next e =
    let w = book-whole source end cells next e in
    rw w.both
    (reads-join (row_reads source (fault (sizes_of []) Head) 5 [] 0 w.head w.at w.first)
    (parts-reads source (sizes_of w.head) body w.at w.rest next w.second))

-- ---- cells and bytes as sources
-- cells have their own numbers
cells-reads : (cells : List ℕ) (at : ℕ) (vs : List ℕ) → drop at cells ≡ vs → at + length vs ≡ length cells → Reads (cell_at cells) at vs (at + length vs)
unfolding cell_at
cells-reads cells at [] e h = rw add-zero none
cells-reads cells at (v ∷ vs) e h =
    let l : at < length cells = omega arith in
    let c = drop-cons cells at 0 l in
    let i : get_or cells at 0 ≡ v = cc in
    let j : drop (at + 1) cells ≡ vs = rw add-one (cc) in
    let p : at + suc (length vs) ≡ at + 1 + length vs = omega arith in
    let found : cell_at cells at ≡ Ok (v, (record { at = at + 1 })) = rw (lt-ltb at (length cells) l, i) in
    rw p (more (record { at = at + 1 }) found (cells-reads cells (at + 1) vs j (omega arith)))

-- what lies after some bytes
pub past : (bytes : List ℕ) (at : ℕ) (front rest : List ℕ) → drop at bytes ≡ front ++ rest → drop (at + length front) bytes ≡ rest
past bytes at front rest e = rw (← drop-drop, e, drop-append_seam)

-- a number is read where it is written
pub number-written : (bytes : List ℕ) (at v : ℕ) (rest : List ℕ) → v < 2097152 → drop at bytes ≡ written v ++ rest → number_at bytes at ≡ value v (at + length (written v))
unfolding number_at
number-written bytes at v rest h e = rw e (first-written at v rest h)

-- bytes have the numbers that are written in them
bytes-reads : (bytes : List ℕ) (at : ℕ) (vs : List ℕ) → Cells vs → drop at bytes ≡ bytes_of vs → Reads (number_at bytes) at vs (at + length (bytes_of vs))
bytes-reads bytes at [] small e = rw add-zero none
bytes-reads bytes at (v ∷ vs) small e =
    rw (length-append, ← add_assoc)
    (more (record { at = at + length (written v) }) (number-written bytes at v (bytes_of vs) (omega (arith, small 0)) e)
    (bytes-reads bytes (at + length (written v)) vs (λ i. small (suc i)) (past bytes at (written v) (bytes_of vs) e)))

-- .. and no others
reads_bytes : (bytes : List ℕ) {at next : ℕ} {vs : List ℕ} → Bytes bytes → Reads (number_at bytes) at vs next
    → drop at bytes ≡ bytes_of vs ++ drop next bytes
unfolding number_at
reads_bytes bytes b none = refl
reads_bytes bytes {at} {next} b (more {v} {vs} c f r) =
    let s = first-stands at (drop at bytes) v c.at (λ i. rw get_or-drop (b (at + i))) f in
    let rest : s.rest ≡ bytes_of vs ++ drop next bytes = sym (past bytes at (written v) s.rest s.whole) ∙ rw s.after at (reads_bytes bytes b r) in
    s.whole ∙ rw (rest, append_assoc)

-- ---- the two laws
-- reading what writing makes of valid cells gives those cells
pub read-written : (cells : List ℕ) → Cells cells → of_cells cells ≡ read cells (length cells) → of_bytes (bytes_of cells) ≡ read cells (length (bytes_of cells))
unfolding of_cells of_bytes
read-written cells small e =
    let r = bytes-reads (bytes_of cells) 0 cells small refl in
    book-other (cell_at cells) (number_at (bytes_of cells)) (length cells) (length (bytes_of cells)) cells (length cells) (length (bytes_of cells)) e (rw zero-add at r) (omega arith)

-- writing what reading makes of accepted bytes gives those bytes, and the cells are valid
pub written_read : (bytes cells : List ℕ) (next : ℕ) → Bytes bytes → of_bytes bytes ≡ read cells next → (bytes_of cells ≡ bytes) × (of_cells cells ≡ read cells (length cells))
unfolding of_cells of_bytes
written_read bytes cells next b e =
    let r = book-reads (number_at bytes) (length bytes) cells next e in
    let w = book-whole (number_at bytes) (length bytes) cells next e in
    let end : drop next bytes ≡ [] = drop_of_length-le bytes w.closed in
    let all : bytes ≡ bytes_of cells = reads_bytes bytes b r ∙ rw (end, append-nil) in
    let i = rw zero-add at (cells-reads cells 0 cells refl (omega arith)) in
    (sym all, book-other (number_at bytes) (cell_at cells) (length bytes) (length cells) cells next (length cells) e i (omega arith))

-- ---- what is written are bytes
below-cons : (m x : ℕ) (a : List ℕ) → x < m → ((i : ℕ) → get_or a i 0 < m) → (i : ℕ) → get_or (x ∷ a) i 0 < m
below-cons m x a h f zero = h
below-cons m x a h f (suc i) = f i

pub below-append : (m : ℕ) (a b : List ℕ) → ((i : ℕ) → get_or a i 0 < m) → ((i : ℕ) → get_or b i 0 < m) → (i : ℕ) → get_or (a ++ b) i 0 < m
below-append m [] b f g = g
below-append m (x ∷ a) b f g = below-cons m x (a ++ b) (f 0) (below-append m a b (λ i. f (suc i)) g)

groups-bytes : (k n : ℕ) → Bytes (groups k n)
groups-bytes zero n = λ i. omega arith
groups-bytes (suc k) n = go (dec_lt n 128) (groups-bytes k (n / 128))
  where
    go : Dec (n < 128) → Bytes (groups k (n / 128)) → Bytes (groups (suc k) n)
    go (yes h) r = simp tests (below-cons 256 n [] (omega arith) (λ i. omega arith))
    go (no h) r = rw (le-ltb n 128 (omega arith)) (below-cons 256 (n % 128 + 128) (groups k (n / 128)) (omega arith) r)

pub numbers-bytes : (vs : List ℕ) → Bytes (bytes_of vs)
unfolding written
numbers-bytes [] = λ i. omega arith
numbers-bytes (v ∷ vs) = below-append 256 (written v) (bytes_of vs) (groups-bytes 3 v) (numbers-bytes vs)
