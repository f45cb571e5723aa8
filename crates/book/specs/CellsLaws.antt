-- Laws of cells as a source: what is read out of them is a segment of them, and that their numbers fit decides it. Assumes nothing.
use Rattle.number.specs.Number.{Number}
use Rattle.number.specs.declared.cause.Cause.{Cause}
use Rattle.std.specs.Prelude.{Option, None, Ok, true, ◌≡◌, length}
use mathlib.Core.List.{List, [], ◌∷◌, ◌++◌, append_assoc, append-nil}
use Rattle.std.proofs.Common.{sym, ◌∙◌, add_assoc, length-append, length-drop, get_or-append-add, drop-cons, get_or-drop, get_or-take, take-take, length-take-le}
use Prim.Native.Nat.{ℕ, zero, suc, ◌+◌, ◌≤◌, ◌<◌}
use Rattle.std.proofs.Math.Decide.{dec_lt}
use Rattle.std.proofs.Math.Nat.{add-zero}
use Rattle.std.proofs.Math.Numerals.{add-one}
use native.Mathlib.Omega.{arith}
use borrow.Author.Tests.{lt-ltb, le-ltb, eq-eqb}
use Rattle.std.proofs.Math.ListN.{get_or, take, drop, get_or-append}
use Rattle.std.proofs.lemmas.List.{take-append-le}
use Rattle.std.proofs.Math.Seq.{drop-append_seam, drop-drop, take-add}
use Rattle.number.specs.TestLaws.{tests}
use Rattle.number.specs.NumberLaws.{value-is, refused-not-value}
use Rattle.number.specs.declared.Cursor.{Cursor}
use Rattle.book.specs.Book.{cell_at, read, row, part_in, parts_in}
use Rattle.book.specs.PartsLaws.{total, part_length_lem, part-clean, parts-empty, parts-front}
use Rattle.book.specs.Range.{fits, among, fault, part_length}
use Rattle.book.specs.RangeLaws.{fits-fault}
use Rattle.book.specs.RowLaws.{row-front, row-empty}
use Rattle.book.specs.declared.Part.{Part}
use Rattle.book.specs.declared.Sizes.{Sizes}

-- a row out of cells is a segment of them
pub record Segment (cells : List ℕ) (k at : ℕ) (vs : List ℕ) (next : ℕ) : Type 0 where
  pub part : vs ≡ take k (drop at cells)
  pub after : next ≡ at + k
  pub within : at + k ≤ length cells

cell-found : (cells : List ℕ) (i v : ℕ) (next : Cursor) → cell_at cells i ≡ Ok (v, next) → (i < length cells) × (v ≡ get_or cells i 0) × (next.at ≡ i + 1)
unfolding cell_at
cell-found cells i v next e = go (dec_lt i (length cells))
  where
    go : Dec (i < length cells) → (i < length cells) × (v ≡ get_or cells i 0) × (next.at ≡ i + 1)
    go (yes h) = let (p, q) = value-is (get_or cells i 0) (i + 1) v next.at (simp tests at e) in (h, sym p, sym q)
    go (no h) = absurd (refused-not-value _ v next.at (rw (le-ltb i (length cells) (omega arith)) at e))

-- a row out of a source each of whose numbers is one element of a list is a segment of it
module _ (source : ℕ → Number) (fault : List ℕ → ℕ → Option Cause) (list : List ℕ)
    (one : (seen : List ℕ) (at v : ℕ) (next : Cursor) → source at ≡ Ok (v, next) → fault seen v ≡ None → (at < length list) × (v ≡ get_or list at 0) × (next.at ≡ at + 1)) where
  pub row-segment : (k : ℕ) (seen : List ℕ) (at : ℕ) (vs : List ℕ) (next : ℕ) → row source fault k seen at ≡ read vs next → at ≤ length list
      → Segment list k at vs next
  row-segment zero seen at vs next e h =
      let (p, q) = row-empty source fault seen at vs next e in
      record { part = sym p; after = omega arith; within = omega arith }
  row-segment (suc k) seen at vs next e h =
      let f = row-front source fault k seen at vs next e in
      let (l, p, q) = one seen at f.v f.cursor f.found f.clean in
      let r = row-segment k (seen ++ (f.v ∷ [])) f.cursor.at f.rest next f.onward (omega arith) in
      record {
        part = f.split ∙ rw (p, r.part, q, add-one, drop-cons list at 0 l);
        after = omega (arith, r.after, q);
        within = omega (arith, r.within, q);
      }

module _ (cells : List ℕ) where
  pub cells-part : (d : Sizes) (part : Part) (at : ℕ) (vs : List ℕ) (next : ℕ) → part_in (cell_at cells) d part at ≡ read vs next → at ≤ length cells
      → Segment cells (part_length d part) at vs next
  cells-part d part at vs next e h =
      row-segment (cell_at cells) (fault d part) cells (λ seen i v c f z. cell-found cells i v c f) (part_length d part) [] at vs next e h

  pub cells-parts : (d : Sizes) (parts : List Part) (at : ℕ) (vs : List ℕ) (next : ℕ) → parts_in (cell_at cells) d parts at ≡ read vs next → at ≤ length cells
      → Segment cells (total d parts) at vs next
  cells-parts d [] at vs next e h =
      let (p, q) = parts-empty (cell_at cells) d at vs next e in
      record { part = sym p; after = omega arith; within = omega arith }
  cells-parts d (part ∷ more) at vs next e h =
      let f = parts-front (cell_at cells) d part more at vs next e in
      let p = cells-part d part at f.front f.mid f.first h in
      let q = cells-parts d more f.mid f.back next f.second (omega (arith, p.after, p.within)) in
      record {
        part = f.both ∙ rw (take-add, drop-drop, ← p.after, ← p.part, ← q.part);
        after = omega (arith, p.after, q.after);
        within = omega (arith, p.after, q.within);
      }

-- ---- the numbers of the cells from a place on fit into parts
-- number i of a part that begins there
abbrev pub FitsAt : Sizes → Part → List ℕ → ℕ → ℕ → Type 0
FitsAt d part cells at i = fits d part i (among (get_or cells (at + i) 0) (take i (drop at cells))) (get_or cells (at + i) 0) ≡ true

abbrev pub Fit : Sizes → List Part → List ℕ → ℕ → Type 0
Fit d [] cells at = Unit {0}
Fit d (part ∷ more) cells at = ((i : ℕ) → i < part_length d part → FitsAt d part cells at i) × Fit d more cells (at + part_length d part)

module _ (cells : List ℕ) (d : Sizes) where
  pub part-fits : (part : Part) (at : ℕ) (vs : List ℕ) (next : ℕ) → part_in (cell_at cells) d part at ≡ read vs next → at ≤ length cells
      → (i : ℕ) → i < part_length d part → FitsAt d part cells at i
  part-fits part at vs next e h i l =
      let p = cells-part cells d part at vs next e h in
      let there : get_or vs i 0 ≡ get_or cells (at + i) 0 = rw (p.part, get_or-take (part_length d part) (drop at cells) i 0 l, get_or-drop) in
      let before : take i vs ≡ take i (drop at cells) = rw p.part (take-take i (part_length d part) (drop at cells) (omega arith)) in
      rw (there, before) at (part-clean (cell_at cells) d part at vs next e i l)

  pub parts-fit : (parts : List Part) (at : ℕ) (vs : List ℕ) (next : ℕ) → parts_in (cell_at cells) d parts at ≡ read vs next → at ≤ length cells → Fit d parts cells at
  parts-fit [] at vs next e h = tt
  parts-fit (part ∷ more) at vs next e h =
      let f = parts-front (cell_at cells) d part more at vs next e in
      let p = cells-part cells d part at f.front f.mid f.first h in
      (part-fits part at f.front f.mid f.first h, rw p.after at (parts-fit more f.mid f.back next f.second (omega (arith, p.after, p.within))))

  -- cells that fit are read
  fit_row : (fault : List ℕ → ℕ → Option Cause) (k : ℕ) (seen : List ℕ) (at : ℕ) → at + k ≤ length cells
      → ((j : ℕ) → j < k → fault (seen ++ take j (drop at cells)) (get_or cells (at + j) 0) ≡ None)
      → row (cell_at cells) fault k seen at ≡ read (take k (drop at cells)) (at + k)
  unfolding row cell_at
  fit_row fault zero seen at h clean = rw add-zero
  fit_row fault (suc k) seen at h clean =
      let v = get_or cells at 0 in
      let front : drop at cells ≡ v ∷ drop (at + 1) cells = rw add-one (drop-cons cells at 0 (omega arith)) in
      let first : fault seen v ≡ None = rw (append-nil, add-zero at) at (clean 0 (omega arith)) in
      let later : (j : ℕ) → j < k → fault ((seen ++ (v ∷ [])) ++ take j (drop (at + 1) cells)) (get_or cells (at + 1 + j) 0) ≡ None = λ j l.
      (let p : (seen ++ (v ∷ [])) ++ take j (drop (at + 1) cells) ≡ seen ++ take (suc j) (drop at cells) = rw (front, append_assoc) in
      let q : at + 1 + j ≡ at + suc j = omega arith in
      rw (p, q) (clean (suc j) (omega arith))) in
      let next : at + 1 + k ≡ at + suc k = omega arith in
      let onward = rw next at (fit_row fault k (seen ++ (v ∷ [])) (at + 1) (omega arith) later) in
      rw (lt-ltb at (length cells) (omega arith), first, onward, front)

  pub fit-part : (part : Part) (at : ℕ) → at + part_length d part ≤ length cells
      → ((i : ℕ) → i < part_length d part → FitsAt d part cells at i)
      → part_in (cell_at cells) d part at ≡ read (take (part_length d part) (drop at cells)) (at + part_length d part)
  fit-part part at h f =
      fit_row (fault d part) (part_length d part) [] at h (λ i l.
      (let count : length (take i (drop at cells)) ≡ i = length-take-le i (drop at cells) (rw length-drop (omega arith)) in
      fits-fault d part (take i (drop at cells)) (get_or cells (at + i) 0) (rw count (f i l))))

  pub fit_parts : (parts : List Part) (at : ℕ) → at + total d parts ≤ length cells → Fit d parts cells at
      → parts_in (cell_at cells) d parts at ≡ read (take (total d parts) (drop at cells)) (at + total d parts)
  unfolding parts_in
  fit_parts [] at h f = rw add-zero
  fit_parts (part ∷ more) at h (f, g) =
      rw (fit-part part at (omega arith) f, fit_parts more (at + part_length d part) (omega arith) g, take-add, drop-drop, add_assoc)

-- ---- the same of the parts themselves
-- the numbers of one part
abbrev pub Suits : Sizes → Part → List ℕ → Type 0
Suits d part vs = (length vs ≡ part_length d part) × ((i : ℕ) → i < part_length d part → fits d part i (among (get_or vs i 0) (take i vs)) (get_or vs i 0) ≡ true)

-- parts one after the other
abbrev pub Composed : Sizes → List Part → List ℕ → Type 0
Composed d [] vs = vs ≡ []
Composed d (part ∷ more) vs = (front : List ℕ) × (back : List ℕ) × (vs ≡ front ++ back) × Suits d part front × Composed d more back

-- what any source gives
pub parts-composed : (source : ℕ → Number) (d : Sizes) (parts : List Part) (at : ℕ) (vs : List ℕ) (next : ℕ) → parts_in source d parts at ≡ read vs next → Composed d parts vs
parts-composed source d [] at vs next e = sym (parts-empty source d at vs next e).0
parts-composed source d (part ∷ more) at vs next e =
    let f = parts-front source d part more at vs next e in
    let suits : Suits d part f.front = (part_length_lem source d part at f.front f.mid f.first, part-clean source d part at f.front f.mid f.first) in
    (f.front, f.back, f.both, suits, parts-composed source d more f.mid f.back next f.second)

pub composed-length : (d : Sizes) (parts : List Part) (vs : List ℕ) → Composed d parts vs → length vs ≡ total d parts
composed-length d [] vs c = rw c
composed-length d (part ∷ more) vs (front, back, both, (count, suits), c) = rw (both, length-append, count, composed-length d more back c)

-- it fits, wherever it stands
pub suits-fit : (d : Sizes) (part : Part) (xs front back : List ℕ) (at : ℕ) → length xs ≡ at → Suits d part front → (i : ℕ) → i < part_length d part
    → FitsAt d part (xs ++ (front ++ back)) at i
suits-fit d part xs front back at e (count, suits) i l =
    let number : get_or (xs ++ (front ++ back)) (at + i) 0 ≡ get_or front i 0 = rw (← e, get_or-append-add) (get_or-append front back 0 i (omega arith)) in
    let before : take i (drop at (xs ++ (front ++ back))) ≡ take i front = rw (← e, drop-append_seam) (take-append-le i front back (omega arith)) in
    rw (number, before) (suits i l)

pub composed-fit : (d : Sizes) (parts : List Part) (xs vs : List ℕ) (at : ℕ) → length xs ≡ at → Composed d parts vs → Fit d parts (xs ++ vs) at
composed-fit d [] xs vs at e c = tt
composed-fit d (part ∷ more) xs vs at e (front, back, both, suits, c) =
    let long : length (xs ++ front) ≡ at + part_length d part = rw (length-append, e, suits.0) in
    rw both (suits-fit d part xs front back at e suits, rw append_assoc at (composed-fit d more (xs ++ front) back (at + part_length d part) long c))
