-- Laws of parts one after the other. Assumes nothing.
use Rattle.std.specs.Prelude.{Result, Ok, Err, ◌≡◌, Bool, true, false, ℕ, ◌+◌, ◌<◌, length, get_or, take}
use Rattle.std.proofs.Math.Path.{refl, sym}
use Rattle.std.proofs.Common.{◌∙◌, ap, zero-add, add_assoc, arith, ne_eqb, length-append, length-take-le}
use mathlib.Core.List.{List, [], ◌∷◌, ◌++◌, append_assoc}
use Rattle.number.specs.Number.{Number, number_at, refusal}
use Rattle.number.specs.declared.Cursor.{Cursor}
use Rattle.number.specs.declared.cause.Refusal.{Refusal}
use Rattle.book.specs.Book.{cell_at, Row, read, refused, before, admitted, part_in, parts_in, joined, body}
use Rattle.book.specs.Range.{part_length, fits, fault_unless, fault_cause, among, fault}
use Rattle.book.specs.RowLaws.{ends, after, ends-joined, refused-not-read, row-length, row-clean, values, values-row}
use Rattle.book.specs.RangeLaws.{fault-fits}
use Rattle.book.specs.declared.Part.{Part}
use Rattle.book.specs.declared.Part.TheVariants.{Productions, Ranks, Actions, Gotos}
use Rattle.book.specs.declared.Sizes.{Sizes}
use Rattle.book.specs.declared.Source.{Source}
use Rattle.book.specs.declared.Source.TheVariants.{Bytes, Cells}

-- the numbers of a source
abbrev pub numbers : Source → ℕ → Number
numbers (Bytes bytes) = number_at bytes.now
numbers (Cells cells) = cell_at cells.now

-- how many numbers parts have
abbrev pub total : Sizes → List Part → ℕ
total d [] = 0
total d (part ∷ more) = part_length d part + total d more

-- two rows of which the second goes on where the first ends
pub record Joined (w : Row) (rest : List ℕ → ℕ → Row) (vs : List ℕ) (next : ℕ) : Type 0 where
  pub front : List ℕ
  pub back : List ℕ
  pub mid : ℕ
  pub first : w ≡ read front mid
  pub second : rest front mid ≡ read back next
  pub both : vs ≡ front ++ back

pub joined-read : (w : Row) (rest : List ℕ → ℕ → Row) (vs : List ℕ) (next : ℕ) → joined w rest ≡ read vs next → Joined w rest vs next
joined-read (refused r) rest vs next e = absurd (refused-not-read r vs next e)
joined-read (read front mid) rest vs next e = go (rest front mid) refl e
  where
    go : (w : Row) → rest front mid ≡ w → before front w ≡ read vs next → Joined (read front mid) rest vs next
    go (refused r) f g = absurd (refused-not-read r vs next g)
    go (read back last) f g = let k : last ≡ next = cc in record { front = front; back = back; mid = mid; first = refl; second = rw k at f; both = cc }

module _ (source : ℕ → Number) (d : Sizes) where
  -- a part that was read
  pub part_length_lem : (part : Part) (at : ℕ) (vs : List ℕ) (next : ℕ) → part_in source d part at ≡ read vs next → length vs ≡ part_length d part
  part_length_lem part at vs next e = row-length source (fault d part) (part_length d part) [] at vs next e

  pub part-clean : (part : Part) (at : ℕ) (vs : List ℕ) (next : ℕ) → part_in source d part at ≡ read vs next → (i : ℕ) → i < part_length d part
      → fits d part i (among (get_or vs i 0) (take i vs)) (get_or vs i 0) ≡ true
  part-clean part at vs next e i l =
      let before : length (take i vs) ≡ i = length-take-le i vs (omega (arith, part_length_lem part at vs next e)) in
      rw before at (fault-fits d part (take i vs) (get_or vs i 0) (row-clean source (fault d part) (part_length d part) [] at vs next e i l))

  pub parts-empty : (at : ℕ) (vs : List ℕ) (next : ℕ) → parts_in source d [] at ≡ read vs next → ([] ≡ vs) × (at ≡ next)
  unfolding parts_in
  parts-empty at vs next e = (cc, cc)

  pub parts-front : (part : Part) (more : List Part) (at : ℕ) (vs : List ℕ) (next : ℕ) → parts_in source d (part ∷ more) at ≡ read vs next
      → Joined (part_in source d part at) (λ front mid. parts_in source d more mid) vs next
  unfolding parts_in
  parts-front part more at vs next e = joined-read (part_in source d part at) (λ front mid. parts_in source d more mid) vs next e

  pub parts-length : (parts : List Part) (at : ℕ) (vs : List ℕ) (next : ℕ) → parts_in source d parts at ≡ read vs next → length vs ≡ total d parts
  parts-length [] at vs next e = ap length (sym (parts-empty at vs next e).0)
  parts-length (part ∷ more) at vs next e =
      let f = parts-front part more at vs next e in
      rw (f.both, length-append, part_length_lem part at f.front f.mid f.first, parts-length more f.mid f.back next f.second)

  ends-parts : (part : Part) (more : List Part) (at : ℕ)
      → ends (parts_in source d (part ∷ more) at) ≡ after (ends (part_in source d part at)) (λ mid. ends (parts_in source d more mid))
  unfolding parts_in
  ends-parts part more at = ends-joined (part_in source d part at) (λ mid. parts_in source d more mid)

  -- the numbers of parts that were read, and m after them
  pub values-parts : (parts : List Part) (m at : ℕ) (vs : List ℕ) (next : ℕ) → parts_in source d parts at ≡ read vs next
      → values source (total d parts + m) at ≡ vs ++ values source m next
  values-parts [] m at vs next e = let (p, q) = parts-empty at vs next e in rw (zero-add, ← p, q)
  values-parts (part ∷ more) m at vs next e =
      let f = parts-front part more at vs next e in
      rw (add_assoc, f.both, append_assoc)
      (values-row source (fault d part) (part_length d part) (total d more + m) [] at f.front f.mid f.first
      ∙ ap (λ (l : List ℕ). f.front ++ l) (values-parts more m f.mid f.back next f.second))

  -- ---- where parts end, as a function that goes on part by part knows it
  after-part : (last next : Result ℕ Refusal) (part : Part) (more : List Part) → next ≡ after last (λ at. ends (part_in source d part at))
      → after next (λ at. ends (parts_in source d more at)) ≡ after last (λ at. ends (parts_in source d (part ∷ more) at))
  after-part (Err r) next part more e = rw e
  after-part (Ok at) next part more e = rw e (sym (ends-parts part more at))

  after_last : (last next : Result ℕ Refusal) (part : Part) → next ≡ after last (λ at. ends (part_in source d part at))
      → next ≡ after last (λ at. ends (parts_in source d (part ∷ []) at))
  unfolding parts_in
  after_last (Err r) next part e = e
  after_last (Ok at) next part e = e ∙ by_row (part_in source d part at) ∙ sym (ends-parts part [] at)
    where
      by_row : (w : Row) → ends w ≡ after (ends w) (λ mid. ends (read [] mid))
      by_row (read vs end) = refl
      by_row (refused r) = refl

  pub after-body : (head : Result ℕ Refusal) {productions ranks actions gotos : Result ℕ Refusal} → productions ≡ after head (λ at. ends (part_in source d Productions at))
      → ranks ≡ after productions (λ at. ends (part_in source d Ranks at)) → actions ≡ after ranks (λ at. ends (part_in source d Actions at)) → gotos ≡ after actions (λ at. ends (part_in source d Gotos at))
      → gotos ≡ after head (λ at. ends (parts_in source d body at))
  after-body head {productions} {ranks} {actions} {gotos} p r a g =
      after_last actions gotos Gotos g ∙ after-part ranks actions Actions (Gotos ∷ []) a ∙ after-part productions ranks Ranks (Actions ∷ Gotos ∷ []) r
      ∙ after-part head productions Productions (Ranks ∷ Actions ∷ Gotos ∷ []) p

-- ---- a number of a part that does not fit
pub admitted-faulty : (part : Part) (i v at : ℕ) (next : Cursor) (fits : ℕ → Bool) → fits v ≡ false
    → admitted (λ v. fault_unless (fits v) (fault_cause part i)) at (Ok (v, next)) ≡ refusal (fault_cause part i) at
admitted-faulty part i v at next fits e = rw e
