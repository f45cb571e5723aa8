-- Laws of the book as a whole: its verdict, part by part. Assumes nothing.
use Rattle.std.specs.Prelude.{⊤, Result, Ok, Err, ◌≡◌, refl, cond, ℕ, ◌+◌, ◌≤◌, ◌<◌, ltb, length, get_or, take, drop, replicate}
use Rattle.std.proofs.Common.{sym, ◌∙◌, ap₂, add-zero, arith, le-ltb, le-leb, length-append, length-drop, take-append-drop, get_or-take, take_all}
use Rattle.std.proofs.Math.Path.{ap}
use mathlib.Core.List.{List, [], ◌++◌, append-nil}
use Rattle.std.proofs.Math.Decide.{dec_lt}
use Rattle.std.proofs.lemmas.Bool.{lt-leb}
use Rattle.std.proofs.Math.ListN.{get_or-append}
use Rattle.number.specs.TestLaws.{tests}
use Rattle.number.specs.Lent.{over}
use Rattle.number.specs.Number.{Number, value}
use Rattle.number.specs.NumberLaws.{value-is, refused-not-value}
use Rattle.number.specs.declared.Cursor.{Cursor}
use Rattle.number.specs.Number.{refused_at}
use Rattle.number.specs.declared.cause.Cause.{Cause}
use Rattle.number.specs.declared.cause.Refusal.{Refusal}
use Rattle.book.specs.Book.{cell_at, Row, read, refused, before, part_in, parts_in, joined, body, whole, book_in, of_cells, checked, delivered}
use Rattle.book.specs.Call.{step}
use Rattle.book.specs.CallLaws.{step-stops, step-passes}
use Rattle.book.specs.CellsLaws.{Segment, cells-part, cells-parts}
use Rattle.book.specs.PartsLaws.{total, joined-read, part_length_lem, part-clean, parts-length, values-parts}
use Rattle.book.specs.Range.{head_lowest, head_highest, fault}
use Rattle.book.specs.RangeLaws.{Small, body_length, head-range}
use Rattle.book.specs.RowLaws.{ends, refused-not-read, values, values-row}
use Rattle.book.specs.Tables.{sizes_of}
use Rattle.book.specs.declared.Part.{Part}
use Rattle.book.specs.declared.Sizes.{Sizes}

-- the verdict on a book of the sizes d whose last row ended at a place
abbrev pub closing : Sizes → ℕ → ℕ → Result Sizes Refusal
closing d end at = cond (ltb at end) (Err (refused_at Cause.Surplus at)) (Ok d)

-- .. or was refused
abbrev pub closing_row : Sizes → ℕ → Result ℕ Refusal → Result Sizes Refusal
closing_row d end (Err r) = Err r
closing_row d end (Ok at) = closing d end at

pub closing-stops : (d : Sizes) (end at : ℕ) {r : Refusal} → Err r ≡ step (ltb at end) Cause.Surplus at → Err r ≡ closing d end at
closing-stops d end at e = step-stops d (ltb at end) Cause.Surplus at [] e

pub closing-passes : (d : Sizes) (end at : ℕ) {u : ⊤} → Ok u ≡ step (ltb at end) Cause.Surplus at → Ok d ≡ closing d end at
closing-passes d end at e = rw (step-passes (ltb at end) Cause.Surplus at e)

-- ---- the head
pub sizes-append : (head body : List ℕ) → length head ≡ 5 → sizes_of (head ++ body) ≡ sizes_of head
unfolding sizes_of
sizes-append head body h =
    rw (get_or-append head body 0 0 (omega arith), get_or-append head body 0 1 (omega arith), get_or-append head body 0 2 (omega arith), get_or-append head body 0 3 (omega arith), get_or-append head body 0 4 (omega arith))

pub sizes-take : (cells : List ℕ) → sizes_of (take 5 cells) ≡ sizes_of cells
unfolding sizes_of
sizes-take cells = rw (get_or-take 5 cells 0 0 (omega arith), get_or-take 5 cells 1 0 (omega arith), get_or-take 5 cells 2 0 (omega arith), get_or-take 5 cells 3 0 (omega arith), get_or-take 5 cells 4 0 (omega arith))

-- the head that a source begins with
abbrev pub head_in : (ℕ → Number) → Row
head_in source = part_in source (sizes_of []) Part.Head 0

module _ (source : ℕ → Number) (head : List ℕ) (at : ℕ) (e : head_in source ≡ read head at) where
  head-length : length head ≡ 5
  head-length = part_length_lem source (sizes_of []) Part.Head 0 head at e

  head-bounds : (i : ℕ) → i < 5 → (get_or head_lowest i 0 ≤ get_or head i 0) × (get_or head i 0 ≤ get_or head_highest i 0)
  head-bounds i l = head-range (sizes_of []) i _ (get_or head i 0) (part-clean source (sizes_of []) Part.Head 0 head at e i l)

  head_small : Small (sizes_of head)
  unfolding sizes_of
  head_small =
      let f = head-bounds 0 (omega arith) in
      let t = head-bounds 1 (omega arith) in
      let n = head-bounds 2 (omega arith) in
      let s = head-bounds 3 (omega arith) in
      let p = head-bounds 4 (omega arith) in
      record { some-form = f.0; forms = f.1; some-terminal = t.0; terminals = t.1; nonterminals = n.1; some-state = s.0; states = s.1; productions = p.1 }

  -- it is the first five numbers of the source
  head-values : values source 5 0 ≡ head
  unfolding values
  head-values = rw append-nil at (values-row source (fault (sizes_of []) Part.Head) 5 0 [] 0 head at e)

-- ---- the verdict
module _ (source : ℕ → Number) (end : ℕ) where
  pub checked-stop : (r : Refusal) → head_in source ≡ refused r → Err r ≡ checked (book_in source end)
  unfolding book_in
  checked-stop r e = rw e

  pub checked-on : (head : List ℕ) (at : ℕ) → head_in source ≡ read head at
      → closing_row (sizes_of head) end (ends (parts_in source (sizes_of head) body at)) ≡ checked (book_in source end)
  unfolding book_in
  checked-on head at e = rw e (by_row (parts_in source (sizes_of head) body at))
    where
      by_end : (rest : List ℕ) (next : ℕ) → Dec (next < end) → closing (sizes_of head) end next ≡ checked (whole end (read (head ++ rest) next))
      by_end rest next (yes h) = simp tests
      by_end rest next (no h) = rw (le-ltb next end (omega arith), sizes-append head rest (head-length source head at e))

      by_row : (w : Row) → closing_row (sizes_of head) end (ends w) ≡ checked (whole end (before head w))
      by_row (refused r) = refl
      by_row (read rest next) = by_end rest next (dec_lt next end)

  pub checked_end : {head : List ℕ} {at : ℕ} {last : Result ℕ Refusal} → head_in source ≡ read head at → last ≡ ends (parts_in source (sizes_of head) body at)
      → closing_row (sizes_of head) end last ≡ checked (book_in source end)
  checked_end {head} {at} e f = ap (closing_row (sizes_of head) end) f ∙ checked-on head at e

-- ---- what the end of a row tells
pub ends_read : (w : Row) (next : ℕ) → ends w ≡ Ok next → (vs : List ℕ) × (w ≡ read vs next)
ends_read (read vs at) next e = let f : at ≡ next = cc in (vs, ap (read vs) f)
ends_read (refused r) next e = let z : ◌≡◌ {A = ℕ} 0 1 = cc in absurd (omega arith)

pub ends-refused : (w : Row) (r : Refusal) → ends w ≡ Err r → w ≡ refused r
ends-refused (read vs at) r e = let z : ◌≡◌ {A = ℕ} 0 1 = cc in absurd (omega arith)
ends-refused (refused q) r e = cc

-- the head of a source that has one
pub record Headed (source : ℕ → Number) (at : ℕ) (head : List ℕ) : Type 0 where
  pub is : head_in source ≡ read head at
  pub five : length head ≡ 5
  pub small : Small (sizes_of head)

pub headed-read : {source : ℕ → Number} {at : ℕ} {head : List ℕ} → head_in source ≡ read head at → Headed source at head
headed-read {source} {at} {head} e = record { is = e; five = head-length source head at e; small = head_small source head at e }

-- it is the first five numbers, which stand alone where they were written over five cells
pub headed : (source : ℕ → Number) (next : ℕ) → ends (head_in source) ≡ Ok next → Headed source next (values source 5 0)
headed source next e =
    let (vs, r) = ends_read (head_in source) next e in
    rw (head-values source vs next r) (headed-read r)

pub headed-over : {source : ℕ → Number} {at : ℕ} {head : List ℕ} → Headed source at head → over head (replicate 5 0) ≡ head
headed-over h = rw (h.five, append-nil)

-- in cells it is the first five of them
pub cells-head : (cells : List ℕ) (next : ℕ) → ends (head_in (cell_at cells)) ≡ Ok next
    → (5 ≤ length cells) × Headed (cell_at cells) next (take 5 cells)
cells-head cells next e =
    let (vs, r) = ends_read (head_in (cell_at cells)) next e in
    let p = cells-part cells (sizes_of []) Part.Head 0 vs next r (omega arith) in
    (omega (arith, p.within), headed-read (r ∙ ap (λ (l : List ℕ). read l next) p.part))

pub checked-cells : (cells : List ℕ) (at : ℕ) {last : Result ℕ Refusal} → Headed (cell_at cells) at (take 5 cells)
    → last ≡ ends (parts_in (cell_at cells) (sizes_of cells) body at) → closing_row (sizes_of cells) (length cells) last ≡ checked (of_cells cells)
unfolding of_cells
checked-cells cells at {last} h e = rw sizes-take at (checked_end (cell_at cells) (length cells) {last = last} h.is (rw sizes-take e))

-- ---- a book that was read
pub checked-valid : (w : Row) (d : Sizes) → checked w ≡ Ok d → (cells : List ℕ) × (next : ℕ) × (w ≡ read cells next) × (d ≡ sizes_of cells)
checked-valid (read cells next) d e = (cells, next, refl, cc)
checked-valid (refused r) d e = absurd (let z : ◌≡◌ {A = ℕ} 0 1 = cc in omega arith)

pub checked-faulty : (w : Row) (r : Refusal) → checked w ≡ Err r → w ≡ refused r
checked-faulty (read cells next) r e = absurd (let z : ◌≡◌ {A = ℕ} 0 1 = cc in omega arith)
checked-faulty (refused q) r e = cc

-- its head, and the parts after it
pub record Whole (source : ℕ → Number) (end : ℕ) (cells : List ℕ) (next : ℕ) : Type 0 where
  pub head : List ℕ
  pub rest : List ℕ
  pub at : ℕ
  pub first : head_in source ≡ read head at
  pub second : parts_in source (sizes_of head) body at ≡ read rest next
  pub both : cells ≡ head ++ rest
  pub closed : end ≤ next

whole-read : (end : ℕ) (w : Row) (cells : List ℕ) (next : ℕ) → whole end w ≡ read cells next → (w ≡ read cells next) × (end ≤ next)
whole-read end (refused r) cells next e = absurd (refused-not-read r cells next e)
whole-read end (read vs at) cells next e = go (dec_lt at end)
  where
    go : Dec (at < end) → (read vs at ≡ read cells next) × (end ≤ next)
    go (yes h) = absurd (refused-not-read _ cells next (simp tests at e))
    go (no h) =
        let f : read vs at ≡ read cells next = rw (le-ltb at end (omega arith)) at e in
        let k : at ≡ next = cc in
        (f, omega arith)

pub book-whole : (source : ℕ → Number) (end : ℕ) (cells : List ℕ) (next : ℕ) → book_in source end ≡ read cells next → Whole source end cells next
unfolding book_in
book-whole source end cells next e =
    let rest : List ℕ → ℕ → Row = λ head at. parts_in source (sizes_of head) body at in
    let (w, closed) = whole-read end (joined (head_in source) rest) cells next e in
    let j = joined-read (head_in source) rest cells next w in
    record { head = j.front; rest = j.back; at = j.mid; first = j.first; second = j.second; both = j.both; closed = closed }

body-total : (d : Sizes) → total d body ≡ body_length d
body-total d = omega arith

module _ {source : ℕ → Number} {end : ℕ} {cells : List ℕ} {next : ℕ} (w : Whole source end cells next) where
  five : length w.head ≡ 5
  five = head-length source w.head w.at w.first

  pub whole-sizes : sizes_of cells ≡ sizes_of w.head
  whole-sizes = rw w.both (sizes-append w.head w.rest five)

  pub whole-small : Small (sizes_of cells)
  whole-small = rw whole-sizes (head_small source w.head w.at w.first)

  pub whole-count : length cells ≡ 5 + body_length (sizes_of cells)
  whole-count =
      rw (whole-sizes, w.both, length-append, five, ← body-total)
      (ap (λ (k : ℕ). 5 + k) (parts-length source (sizes_of w.head) body w.at w.rest next w.second))

  whole-values : values source (5 + body_length (sizes_of cells)) 0 ≡ cells
  unfolding values
  whole-values =
      let d = sizes_of w.head in
      let after : values source (body_length d) w.at ≡ w.rest =
      rw (add-zero, append-nil, body-total) at (values-parts source d body 0 w.at w.rest next w.second) in
      rw (whole-sizes, w.both)
      (values-row source (fault (sizes_of []) Part.Head) 5 (body_length d) [] 0 w.head w.at w.first
      ∙ ap (λ (l : List ℕ). w.head ++ l) after)

-- the two segments of cells that hold a book
pub whole-segments : {cells out : List ℕ} {next : ℕ} (w : Whole (cell_at cells) (length cells) out next)
    → Segment cells 5 0 w.head w.at × Segment cells (total (sizes_of w.head) body) 5 w.rest next
whole-segments {cells} {out} {next} w =
    let p = cells-part cells (sizes_of []) Part.Head 0 w.head w.at w.first (omega arith) in
    let five : w.at ≡ 5 = omega (arith, p.after) in
    (p, cells-parts cells (sizes_of w.head) body 5 w.rest next (rw five at w.second) (omega (arith, p.within)))

-- they are that book's
whole_cells : {cells out : List ℕ} {next : ℕ} → Whole (cell_at cells) (length cells) out next → out ≡ cells
whole_cells {cells} {out} {next} w =
    let (p, q) = whole-segments w in
    let rest : take (total (sizes_of w.head) body) (drop 5 cells) ≡ drop 5 cells =
    take_all (total (sizes_of w.head) body) (drop 5 cells) (rw length-drop (omega (arith, w.closed, q.after))) in
    w.both ∙ rw (p.part, q.part, rest) (take-append-drop 5 cells)

-- .. up to their end
whole-end : (cells : List ℕ) {out : List ℕ} {next : ℕ} → Whole (cell_at cells) (length cells) out next → next ≡ length cells
whole-end cells w = let (p, q) = whole-segments w in omega (arith, w.closed, q.after, q.within)

-- ---- what is delivered into lent memory
module _ (f : List ℕ → List ℕ) (w : Row) (lent : List ℕ) where
  pub deliver-stop : (r : Refusal) → w ≡ refused r → (Err r, lent) ≡ delivered f w lent
  deliver-stop r e = rw e

  pub deliver-short : (cells : List ℕ) (next : ℕ) → w ≡ read cells next → length lent < length (f cells)
      → (Err (refused_at Cause.Output 0), lent) ≡ delivered f w lent
  deliver-short cells next e h = rw (e, lt-leb (length (f cells)) (length lent) h)

  pub deliver-whole : (cells : List ℕ) (next n : ℕ) (left : List ℕ) → w ≡ read cells next → n ≡ length (f cells) → n ≤ length lent → left ≡ over (f cells) lent
      → (Ok n, left) ≡ delivered f w lent
  deliver-whole cells next n left e c h o = rw (e, o, c, le-leb (length (f cells)) (length lent) (omega arith))

-- ---- a book that was found valid
pub record Readable (source : ℕ → Number) (end : ℕ) (d : Sizes) : Type 0 where
  pub cells : List ℕ
  pub next : ℕ
  pub is : book_in source end ≡ read cells next
  pub small : Small d
  pub count : length cells ≡ 5 + body_length d
  pub numbers : values source (5 + body_length d) 0 ≡ cells

pub readable : (source : ℕ → Number) (end : ℕ) (d : Sizes) → checked (book_in source end) ≡ Ok d → Readable source end d
readable source end d e = let (cells, next, is, sizes) = checked-valid (book_in source end) d e in found cells next is sizes
  where
    found : (cells : List ℕ) (next : ℕ) → book_in source end ≡ read cells next → d ≡ sizes_of cells → Readable source end d
    found cells next is sizes =
        let w = book-whole source end cells next is in
        record { cells = cells; next = next; is = is; small = rw sizes (whole-small w); count = rw sizes (whole-count w); numbers = rw sizes (whole-values w) }

-- valid cells are the book that they hold
pub cells-valid : (cells : List ℕ) (d : Sizes) → checked (of_cells cells) ≡ Ok d → of_cells cells ≡ read cells (length cells)
unfolding of_cells
cells-valid cells d e =
    let (out, next, is, sizes) = checked-valid (book_in (cell_at cells) (length cells)) d e in
    let w = book-whole (cell_at cells) (length cells) out next is in
    is ∙ ap₂ read (whole_cells w) (whole-end cells w)
