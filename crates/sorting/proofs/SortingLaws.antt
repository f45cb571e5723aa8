-- Laws of sorting: what the sorted list is, and on what it does not depend. Assumes nothing.
use Rattle.std.specs.Prelude.{Result, Ok, Err, true, false, List, [], ◌≡◌, refl, ℕ, ◌≤◌, length, take}
use Rattle.std.proofs.Common.{sym, ◌∙◌, ap, arith}
use Rattle.std.proofs.lemmas.List.{length-map}
use Rattle.number.specs.Lent.{over}
use Rattle.number.specs.NumberLaws.{Bytes}
use Rattle.book.specs.Tables.{Tables, tables_of}
use Rattle.book.specs.TablesLaws.{Accepted, InRange}
use Rattle.book.proofs.TablesLaws.{accepted-book, in-range}
use Rattle.book.specs.declared.Sizes.{Sizes}
use Rattle.forms.specs.AlikeLaws.{Alike}
use Rattle.forms.proofs.AlikeLaws.{alike-tables, alike-sizes}
use Rattle.forms.proofs.FormsLaws.{plain-holds, plain-tables}
use Rattle.machine.specs.MachineLaws.{clash}
use Rattle.lists.specs.List.{entries, list_of, list_in}
use Rattle.lists.proofs.ListLaws.{against-on, list-alike}
use Rattle.lists.specs.declared.Entry.{Entry}
use Rattle.items.specs.Items.{Item, item_of, items, list_bytes}
use Rattle.items.specs.Rearranged.{Rearranged}
use Rattle.items.specs.RearrangedLaws.{rearranged-length, rearranged-valid}
use Rattle.items.specs.Valid.{AllValid}
use Rattle.items.specs.WrittenLaws.{items-few, items-valid, list_written, written_listed}
use Rattle.course.specs.Course.{Course, fault, clean, course}
use Rattle.sorting.specs.FittedLaws.{Fits, fits-front, fits_told, told-fits-ok}
use Rattle.sorting.specs.OrderLaws.{AllBelow}
use Rattle.sorting.proofs.OrderLaws.{clean-below, by-state-rearranged, sorted-clean, ordered-free, ordered-kept, rearranged-clean, rearranged-sorted}
use Rattle.sorting.specs.Sorting.{by_state, sorted_bytes, sorted_by, sorts}
use Rattle.sorting.specs.SortingLaws.{InOrder}
use Rattle.sorting.specs.declared.Unsorted.{Unsorted}
use Rattle.sorting.specs.declared.Unsorted.TheVariants.{Refused}

-- ---- entries that were sorted into lent bytes
record IsSorted (B : Tables) (xs : List Item) (lent : List ℕ) (n : ℕ) (out : List ℕ) : Type 0 where
  pub states : List ℕ
  pub faultless : course false B 0 [] xs ≡ clean states
  pub fits : Fits (sorted_bytes B xs) lent n out

sorted-by : {B : Tables} {xs : List Item} {lent out : List ℕ} {n : ℕ} → sorted_by (sorted_bytes B xs) (course false B 0 [] xs) lent ≡ (Ok n, out) → IsSorted B xs lent n out
sorted-by {B} {xs} {lent} {out} {n} e = go (course false B 0 [] xs) refl e
  where
    go : (c : Course) → course false B 0 [] xs ≡ c → sorted_by (sorted_bytes B xs) c lent ≡ (Ok n, out) → IsSorted B xs lent n out
    go (fault j) f g = absurd (clash (cc (ap (λ (p : Result ℕ Unsorted × List ℕ). p.0) g)))
    go (clean states) f g = record { states = states; faultless = f; fits = told-fits-ok Refused (sorted_bytes B xs) lent g }

module _ (cells bytes : List ℕ) {es : List Entry} {end : ℕ} (l : list_in cells bytes ≡ entries es end) where
  told-sorted : {lent out : List ℕ} {n : ℕ} → sorts cells bytes lent ≡ (Ok n, out) → IsSorted (tables_of cells) (items bytes es) lent n out
  unfolding sorts
  told-sorted e = sorted-by (rw l at e)

  sorted-told : {states : List ℕ} {n : ℕ} (r lent : List ℕ) → course false (tables_of cells) 0 [] (items bytes es) ≡ clean states
      → sorted_bytes (tables_of cells) (items bytes es) ≡ r → length r ≡ n → n ≤ length lent → sorts cells bytes lent ≡ (Ok n, over r lent)
  unfolding sorts
  sorted-told r lent c e f room = rw (l, c, e) (fits_told Ok (λ r. Err (Refused r)) r lent f room)

-- ---- two lists with the same entries
module _ (cells first second : List ℕ) {es fs : List Entry} {end last : ℕ} (l : list_in cells first ≡ entries es end) (m : list_in cells second ≡ entries fs last)
    (r : Rearranged (items first es) (items second fs)) where
  -- without a wrong or repeated entry, in any lent bytes
  pub same-sorted : {states : List ℕ} (lent : List ℕ) → course false (tables_of cells) 0 [] (items first es) ≡ clean states → sorts cells first lent ≡ sorts cells second lent
  unfolding sorts
  same-sorted lent c = rw (l, m, c, (rearranged-clean (tables_of cells) r c).1, rearranged-sorted (tables_of cells) r c (tables_of cells).states)

  -- 'two lists with the same entries in different order sort to the same bytes'
  pub sort-same : (lent : List ℕ) {out : List ℕ} {n : ℕ} → sorts cells first lent ≡ (Ok n, out) → sorts cells second lent ≡ (Ok n, out)
  sort-same lent e = sym (same-sorted lent (told-sorted cells first l e).faultless) ∙ e

module _ (d : Sizes) (cells : List ℕ) (h : Accepted d cells) where
  few : d.t ≤ 32
  few = (accepted-book cells d h).small.terminals

  terminals : (tables_of cells).terminals ≡ d.t
  unfolding tables_of
  terminals = rw (← (accepted-book cells d h).sizes)

  range : InRange (tables_of cells)
  range = rw (plain-tables d cells h) at (in-range (plain-holds d cells h))

  -- the list that has these entries is accepted, and has them
  pub list-of : {xs : List Item} → AllValid d.t xs → length xs ≤ 128
      → (es : List Entry) × (end : ℕ) × (list_in cells (list_bytes xs) ≡ entries es end) × (items (list_bytes xs) es ≡ xs)
  list-of {xs} v number =
      let (es, end, list, says) = written_listed few v number in
      (es, end, sym (against-on cells (list_bytes xs) d h) ∙ list, says)

  module _ (bytes : List ℕ) {es : List Entry} {end : ℕ} (l : list_in cells bytes ≡ entries es end) where
    pub read-so : list_of d.t bytes ≡ entries es end
    read-so = against-on cells bytes d h ∙ l

    pub list-valid : AllValid d.t (items bytes es)
    list-valid = items-valid d.t bytes few read-so

    -- the entries of a list fail in states of the book
    pub list-below : {states : List ℕ} → course false (tables_of cells) 0 [] (items bytes es) ≡ clean states → AllBelow (tables_of cells) (tables_of cells).states (items bytes es)
    list-below c = clean-below (tables_of cells) range (rw terminals list-valid) c

    in_order : {states : List ℕ} → course false (tables_of cells) 0 [] (items bytes es) ≡ clean states → InOrder cells (items bytes es) (sorted_bytes (tables_of cells) (items bytes es))
    in_order c =
        let r = by-state-rearranged (list-below c) in
        let xs = by_state (tables_of cells) (items bytes es) (tables_of cells).states 0 in
        let number : length xs ≤ 128 = omega (arith, rearranged-length r, items-few d.t bytes read-so, length-map es (item_of bytes)) in
        let (fs, last, list, says) = list-of (rearranged-valid r list-valid) number in
        let (states, faultless) = sorted-clean (tables_of cells) (items bytes es) (tables_of cells).states c in
        record {
          es = fs;
          end = last;
          list = list;
          same = rw says r;
          states = states;
          faultless = rw says faultless;
        }

    -- the entries of a list in state order have its own bytes, to which it sorts
    pub ordered-bytes : {states : List ℕ} → Bytes bytes → course true (tables_of cells) 0 [] (items bytes es) ≡ clean states
        → sorted_bytes (tables_of cells) (items bytes es) ≡ bytes
    ordered-bytes b c =
        ap list_bytes (ordered-kept (tables_of cells) (list-below (ordered-free (tables_of cells) 0 [] (items bytes es) c)) c) ∙ list_written d.t bytes b few read-so

    pub ordered-back : {states : List ℕ} (lent : List ℕ) → Bytes bytes → course true (tables_of cells) 0 [] (items bytes es) ≡ clean states → length bytes ≤ length lent
        → sorts cells bytes lent ≡ (Ok (length bytes), over bytes lent)
    ordered-back lent b c room = sorted-told cells bytes l bytes lent (ordered-free (tables_of cells) 0 [] (items bytes es) c) (ordered-bytes b c) refl room

    module _ (lent : List ℕ) {out : List ℕ} {n : ℕ} (e : sorts cells bytes lent ≡ (Ok n, out)) where
      is_sorted : IsSorted (tables_of cells) (items bytes es) lent n out
      is_sorted = told-sorted cells bytes l e

      pub sort-bytes : take n out ≡ sorted_bytes (tables_of cells) (items bytes es)
      sort-bytes = fits-front is_sorted.fits

      -- 'the result is an accepted list with the same entries; its judgement has no fault'
      pub sort-accepted : InOrder cells (items bytes es) (take n out)
      sort-accepted = rw sort-bytes (in_order is_sorted.faultless)

      -- 'sorting it again gives it back', wherever it has room
      pub sort-again : (room : List ℕ) → n ≤ length room → sorts cells (take n out) room ≡ (Ok n, over (take n out) room)
      sort-again room f =
          sym (same-sorted cells bytes (take n out) l sort-accepted.list sort-accepted.same room is_sorted.faultless)
          ∙ sorted-told cells bytes l (take n out) room is_sorted.faultless (sym sort-bytes) (rw sort-bytes is_sorted.fits.count) f

-- ---- sorting does not depend on form and ranks
pub sort-alike : (d e : Sizes) (cells other : List ℕ) → Alike d e cells other → (bytes lent : List ℕ) → sorts cells bytes lent ≡ sorts other bytes lent
unfolding sorts
sort-alike d e cells other a bytes lent =
    rw (alike-tables d e cells other a, list-alike d e cells other bytes a.first a.second (ap (λ (x : Sizes). x.t) (alike-sizes d e cells other a)))
