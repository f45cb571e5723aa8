-- Laws of a list in state order. Assumes nothing.
use Rattle.number.specs.declared.cause.Cause.{Cause}
use Rattle.std.specs.Prelude.{Result, false, Ok, Err, List, [], ◌++◌, ◌≡◌, ℕ, ◌+◌, ◌≤◌, ◌<◌, length, take}
use Rattle.std.proofs.Common.{sym, ◌∙◌, ap, arith, length-append, length-take-le}
use Rattle.std.proofs.lemmas.List.{length-map}
use Rattle.std.proofs.lemmas.List.Edits.{sets}
use Rattle.number.specs.Number.{refused_at, number_at, written}
use Rattle.number.specs.NumberLaws.{Bytes}
use Rattle.number.specs.declared.cause.Refusal.{Refusal}
use Rattle.book.specs.Book.{bytes_of, of_cells, checked}
use Rattle.book.specs.Tables.{Tables, tables_of}
use Rattle.book.specs.TablesLaws.{Holds}
use Rattle.book.proofs.TablesLaws.{in-range}
use Rattle.book.specs.declared.Sizes.{Sizes}
use Rattle.layers.specs.CrossingLaws.{terminals-are, states-are}
use Rattle.lists.proofs.EntryLaws.{number-within}
use Rattle.lists.specs.List.{list_of, list_in, listing, after}
use Rattle.lists.proofs.ListLaws.{against-stop, against-on}
use Rattle.lists.specs.declared.Rest.{Rest}
use Rattle.items.specs.Items.{Item, items, numbers_of}
use Rattle.items.specs.Rearranged.{Rearranged}
use Rattle.items.specs.RearrangedLaws.{rearranged-length, rearranged-bytes}
use Rattle.items.specs.WrittenLaws.{list_counted, items-valid, list-front, list_written}
use Rattle.items.specs.Valid.{AllValid}
use Rattle.course.specs.AcceptedLaws.{ListAccepted, list-refused, accepted-first, accepted-ahead}
use Rattle.course.specs.Course.{fault, clean, course}
use Rattle.course.specs.Turns.{EntriesPassed, Clean}
use Rattle.course.specs.declared.Judgement.{Judgement}
use Rattle.sorting.specs.FittedLaws.{fitted_short, fitted-put}
use Rattle.sorting.proofs.OrderLaws.{clean-below, by-state-rearranged}
use Rattle.sorting.specs.PutLaws.{put_both}
use Rattle.sorting.proofs.PutStatesLaws.{spans-by-state}
use Rattle.sorting.specs.Sorting.{by_state, sorted_bytes, sorted_by, sorted_in, sorts}
use Rattle.sorting.specs.UpTo.{spans_to}
use Rattle.sorting.specs.declared.Unsorted.{Unsorted}
use Rattle.sorting.specs.declared.Unsorted.TheVariants.{Fault, Refused}

-- ---- a list that is put: its first bytes, then more, which are as many as all of its own
module _ (bytes more lent : List ℕ) (first : ℕ) (whole : first + length more ≡ length bytes) where
  sorted-length : length (take first bytes ++ more) ≡ length bytes
  sorted-length = rw (length-append, length-take-le first bytes (omega arith)) whole

  pub list-short : length lent < length bytes → (Err (Refused (refused_at Cause.Output 0)), lent) ≡ sorted_by (take first bytes ++ more) (clean []) lent
  list-short h = fitted_short Ok (λ r. Err (Refused r)) (take first bytes ++ more) lent (omega (arith, sorted-length))

  pub list_put : (front out : List ℕ) → length bytes ≤ length lent → front ≡ sets lent 0 (take first bytes) → out ≡ sets front first more
      → (Ok (length bytes), out) ≡ sorted_by (take first bytes ++ more) (clean []) lent
  list_put front out h e f =
      let room : length (take first bytes ++ more) ≤ length lent = omega (arith, sorted-length) in
      let before : first ≡ length (take first bytes) = rw (length-take-le first bytes (omega arith)) in
      fitted-put Ok (λ r. Err (Refused r)) (take first bytes ++ more) lent sorted-length h (put_both (take first bytes) more lent front out first before room e f)

-- ---- a list that was accepted
module _ (t : ℕ) {bytes : List ℕ} {rest : Rest} (s : ListAccepted bytes (list_of t bytes) rest) where
  pub accepted-fault : (B : Tables) (j : Judgement) (lent : List ℕ) → EntriesPassed false B t bytes rest.at rest.left [] (Err j)
      → (Err (Fault j), lent) ≡ sorted_in B bytes (list_of t bytes) lent
  accepted-fault B j lent f =
      let g : course false B 0 [] (items bytes s.es) ≡ fault j = rw (accepted-ahead t s) at f in
      rw (s.list, g)

-- .. whose entries passed against plain cells: the bytes that are put are those of the sorted list, and all of them
module _ {d : Sizes} {cells bytes : List ℕ} {rest : Rest} {places : List ℕ} (h : Holds d cells) (b : Bytes bytes) (s : ListAccepted bytes (list_of d.t bytes) rest)
    (c : EntriesPassed false (tables_of cells) d.t bytes rest.at rest.left places (Ok tt)) where
  abbrev xs : List Item
  xs = items bytes s.es

  abbrev sorted : List Item
  sorted = by_state (tables_of cells) xs (tables_of cells).states 0

  passed : Clean (tables_of cells) d.t bytes xs (course false (tables_of cells) 0 [] xs) places
  passed = rw (accepted-ahead d.t s) at c

  rearranged : Rearranged xs sorted
  rearranged =
      let valid : AllValid (tables_of cells).terminals xs = rw (terminals-are h) (items-valid d.t bytes h.small.terminals s.list) in
      by-state-rearranged (clean-below (tables_of cells) (in-range h) valid passed.same)

  spans : spans_to bytes places d.s ≡ bytes_of (numbers_of sorted)
  spans =
      ap (λ (n : ℕ). spans_to bytes places n) (sym (states-are h))
      ∙ spans-by-state bytes b h.small.terminals (tables_of cells) xs places passed.kept (tables_of cells).states (omega (arith, states-are h, h.small.states))

  front : take rest.at bytes ≡ written (length xs)
  front = rw (accepted-first bytes (list_of d.t bytes) s, length-map) (list-front d.t bytes b s.list).0

  pub accepted-whole : rest.at + length (spans_to bytes places d.s) ≡ length bytes
  accepted-whole =
      let within : rest.at ≤ length bytes = rw (accepted-first bytes (list_of d.t bytes) s) (number-within bytes 0 (length s.es) (after (number_at bytes 0)) (list_counted d.t bytes s.list).found) in
      let all = ap length (list_written d.t bytes b h.small.terminals s.list) in
      omega (arith, within, length-take-le rest.at bytes within, ap length front, ap length spans, rearranged-bytes rearranged, length-append (written (length xs)) (bytes_of (numbers_of xs)), all)

  pub accepted-sorted : (lent : List ℕ) (o : Result ℕ Unsorted × List ℕ) → o ≡ sorted_by (take rest.at bytes ++ spans_to bytes places d.s) (clean []) lent
      → o ≡ sorted_in (tables_of cells) bytes (list_of d.t bytes) lent
  accepted-sorted lent o f =
      let whole : take rest.at bytes ++ spans_to bytes places d.s ≡ sorted_bytes (tables_of cells) xs = rw (front, spans, rearranged-length rearranged) in
      rw (s.list, passed.same) (rw whole at f)

-- ---- what stops it before that, and what does not
module _ (cells bytes lent : List ℕ) where
  pub sorts-unbooked : (r : Refusal) → checked (of_cells cells) ≡ Err r → (Err (Refused r), lent) ≡ sorts cells bytes lent
  unfolding sorts
  sorts-unbooked r e = rw (list-refused bytes (list_in cells bytes) (sym (against-stop cells bytes r e)))

  pub sorts-unlisted : (d : Sizes) (r : Refusal) → checked (of_cells cells) ≡ Ok d → listing bytes (list_of d.t bytes) ≡ Err r → (Err (Refused r), lent) ≡ sorts cells bytes lent
  unfolding sorts
  sorts-unlisted d r h e = rw (← against-on cells bytes d h, list-refused bytes (list_of d.t bytes) e)

  pub sorts-listed : (d : Sizes) → checked (of_cells cells) ≡ Ok d → sorts cells bytes lent ≡ sorted_in (tables_of cells) bytes (list_of d.t bytes) lent
  unfolding sorts
  sorts-listed d e = rw (against-on cells bytes d e)
