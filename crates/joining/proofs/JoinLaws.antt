-- Laws of two lists that are joined: the bytes that are put are those of the joined list. Assumes nothing.
use Rattle.number.specs.declared.cause.Cause.{Cause}
use Rattle.std.specs.Prelude.{Bool, true, false, cond, ◌≡◌, ltb, length, get_or, Result, Ok, Err}
use mathlib.Core.List.{List, [], ◌∷◌, ◌++◌}
use Rattle.std.proofs.Math.Path.{refl}
use Rattle.std.proofs.Common.{sym, ◌∙◌, arith}
use Prim.Native.Nat.{ℕ, zero, suc, ◌+◌, ◌≤◌, ◌<◌}
use Rattle.std.proofs.Math.Nat.{zero-add}
use Rattle.std.proofs.Math.ListN.{length-append}
use Rattle.std.proofs.lemmas.List.Edits.{sets}
use Rattle.number.specs.Number.{refused_at, written}
use Rattle.number.specs.NumberLaws.{Bytes}
use Rattle.number.specs.declared.Cursor.{Cursor}
use Rattle.number.specs.declared.cause.Refusal.{Refusal}
use Rattle.book.specs.Book.{bytes_of, of_cells, checked}
use Rattle.book.specs.Tables.{Tables, tables_of}
use Rattle.book.specs.TablesLaws.{Holds}
use Rattle.book.specs.declared.Sizes.{Sizes}
use Rattle.layers.specs.CrossingLaws.{states-are}
use Rattle.lists.specs.Entry.{sentence, entry_at}
use Rattle.lists.proofs.EntryLaws.{part_length, entry-parts, entry-spelled}
use Rattle.lists.specs.List.{list_of, listing}
use Rattle.lists.specs.declared.Entry.{Entry}
use Rattle.lists.specs.declared.Rest.{Rest}
use Rattle.items.specs.Items.{Item, item_of, items, numbers_of}
use Rattle.course.specs.AcceptedLaws.{ListAccepted, list-refused, accepted-ahead}
use Rattle.course.specs.Course.{fault, course, in_state}
use Rattle.course.specs.Turns.{PlaceOf, none, one, Places, EntriesPassed, Clean}
use Rattle.course.specs.declared.Judgement.{Judgement}
use Rattle.sorting.specs.FittedLaws.{fitted_short, fitted-put}
use Rattle.sorting.specs.PutLaws.{put_both}
use Rattle.sorting.proofs.PutStatesLaws.{place-span}
use Rattle.sorting.specs.Sorting.{statewise, fitted}
use Rattle.sorting.proofs.StatewiseLaws.{statewise-last}
use Rattle.sorting.proofs.UpToLaws.{up-to-written}
use Rattle.joining.specs.Joining.{shorter, joined, joined_bytes, joined_in, joins}
use Rattle.pieces.specs.Pieces.{symbols_at, is_shorter, piece_at, entry_count, piece_of, pieces_to, count_to}
use Rattle.pieces.specs.PiecesLaws.{symbols-read, second_none, first-none, both-compared, second-taken, first_taken, count-first, count-second, count_none}
use Rattle.joining.specs.JoinLaws.{BothAccepted}
use Rattle.joining.specs.declared.Unjoined.{Unjoined}
use Rattle.joining.specs.declared.Unjoined.TheVariants.{Fault, Refused, ListRefused}
use Rattle.joining.specs.declared.Which.TheVariants.{First, Second}

-- ---- one state
-- what is taken of the entries that stand at two places
record Taken (first : List ℕ) (p : ℕ) (second : List ℕ) (q : ℕ) (xs : List Item) : Type 0 where
  pub bytes : piece_at first p second q ≡ bytes_of (numbers_of xs)
  pub count : entry_count p q ≡ length xs

entry-symbols : {t : ℕ} (bytes : List ℕ) (place : ℕ) {e : Entry} {next : Cursor} → t ≤ 32 → entry_at t bytes place ≡ Ok (e, next)
    → symbols_at bytes place ≡ length (sentence bytes e)
entry-symbols {t} bytes place {e} {next} few f =
    let s = entry-spelled t bytes place e next (omega arith) f in
    sym (symbols-read bytes place (entry-parts t bytes place e next f).begins) ∙ sym (part_length bytes e.start e.len s.symbols.within)

module _ {t : ℕ} (first second : List ℕ) (b : Bytes first) (c : Bytes second) (few : t ≤ 32) where
  of-first : (p q : ℕ) {xs : List Item} → false ≡ is_shorter first p second q → PlaceOf t first p xs → piece_at first p second q ≡ bytes_of (numbers_of xs)
  of-first p q e x = first_taken first p second q e ∙ place-span first b few x

  of-second : (p q : ℕ) {ys : List Item} → true ≡ is_shorter first p second q → PlaceOf t second q ys → piece_at first p second q ≡ bytes_of (numbers_of ys)
  of-second p q e y = second-taken first p second q e ∙ place-span second c few y

  taken : {p q : ℕ} {xs ys : List Item} → PlaceOf t first p xs → PlaceOf t second q ys → Taken first p second q (shorter xs ys)
  taken none none = record { bytes = of-first 0 0 (second_none first 0 second 0 refl) none; count = sym (count_none 0 0 refl refl) }
  taken (one {place = p} l f) none = record { bytes = of-first p 0 (second_none first p second 0 refl) (one l f); count = sym (count-first p 0 (omega arith)) }
  taken none (one {place = q} m g) = record { bytes = of-second 0 q (first-none first 0 second q (omega arith) refl) (one m g); count = sym (count-second 0 q refl (omega arith)) }
  taken (one {place = p} {e = e} l f) (one {place = q} {e = d} m g) = go (ltb (length (sentence second d)) (length (sentence first e))) compared
    where
      compared : ltb (length (sentence second d)) (length (sentence first e)) ≡ is_shorter first p second q
      compared = rw (← entry-symbols first p few f, ← entry-symbols second q few g) (both-compared first p second q (omega arith) (omega arith))

      go : (less : Bool) → less ≡ is_shorter first p second q → Taken first p second q (cond less (item_of second d ∷ []) (item_of first e ∷ []))
      go true h = record { bytes = of-second p q h (one m g); count = sym (count-first p q (omega arith)) }
      go false h = record { bytes = of-first p q h (one l f); count = sym (count-first p q (omega arith)) }

-- ---- states in turn
module _ {t : ℕ} (B : Tables) (first places second others : List ℕ) (xs ys : List Item) (b : Bytes first) (c : Bytes second) (few : t ≤ 32)
    (x : Places B t first xs places) (y : Places B t second ys others) where
  here : (s : ℕ) → s < 128 → Taken first (get_or places s 0) second (get_or others s 0) (shorter (in_state B s xs) (in_state B s ys))
  here s h = taken first second b c few (x s h) (y s h)

  pieces-joined : (k : ℕ) → k ≤ 128 → pieces_to first places second others k ≡ bytes_of (numbers_of (joined B xs ys k 0))
  pieces-joined k h = up-to-written (piece_of first places second others) (λ s. shorter (in_state B s xs) (in_state B s ys)) k (λ s l. (here s (omega arith)).bytes)

  count-joined : (k : ℕ) → k ≤ 128 → count_to places others k ≡ length (joined B xs ys k 0)
  unfolding count_to statewise
  count-joined zero h = refl
  count-joined (suc k) h =
      let taking : ℕ → List Item = λ s. shorter (in_state B s xs) (in_state B s ys) in
      let last : joined B xs ys (suc k) 0 ≡ joined B xs ys k 0 ++ taking k = rw zero-add at (statewise-last taking k 0) in
      rw (last, length-append, count-joined k (omega arith), (here k (omega arith)).count)

-- ---- a list that is put: its count, then its entries, in a room of which so much is left by these
module _ (count pieces lent : List ℕ) where
  pub pieces-short : length lent < length pieces → (Err (Refused (refused_at Cause.Output 0)), lent) ≡ fitted Ok (λ r. Err (Refused r)) (count ++ pieces) lent
  pieces-short h = fitted_short Ok (λ r. Err (Refused r)) (count ++ pieces) lent (omega (arith, length-append count pieces))

  module _ (left : ℕ) (e : left + length pieces ≡ length lent) where
    pub count-short : left < length count → (Err (Refused (refused_at Cause.Output 0)), lent) ≡ fitted Ok (λ r. Err (Refused r)) (count ++ pieces) lent
    count-short h = fitted_short Ok (λ r. Err (Refused r)) (count ++ pieces) lent (omega (arith, length-append count pieces))

    pub list_put : (start end : ℕ) (between out : List ℕ) → length count ≤ left → (start ≡ 0 + length count) × (between ≡ sets lent 0 count)
        → (end ≡ start + length pieces) × (out ≡ sets between start pieces) → (Ok end, out) ≡ fitted Ok (λ r. Err (Refused r)) (count ++ pieces) lent
    list_put start end between out h (f, g) (i, j) =
        let both = length-append count pieces in
        let room : length (count ++ pieces) ≤ length lent = omega (arith, both) in
        fitted-put Ok (λ r. Err (Refused r)) (count ++ pieces) lent (omega (arith, both)) (omega (arith, both)) (put_both count pieces lent between out start (omega arith) room g j)

module _ (t : ℕ) (B : Tables) {first second : List ℕ} {rest other : Rest} (lent : List ℕ) (a : BothAccepted t first rest second other) where
  pub first-fault : (j : Judgement) → EntriesPassed true B t first rest.at rest.left [] (Err j)
      → (Err (Fault First j), lent) ≡ joined_in B first (list_of t first) second (list_of t second) lent
  first-fault j f =
      let g : course true B 0 [] (items first a.one.es) ≡ fault j = rw (accepted-ahead t a.one) at f in
      rw (a.one.list, a.two.list, g)

  pub second-fault : (places : List ℕ) (j : Judgement) → EntriesPassed true B t first rest.at rest.left places (Ok tt)
      → EntriesPassed true B t second other.at other.left [] (Err j) → (Err (Fault Second j), lent) ≡ joined_in B first (list_of t first) second (list_of t second) lent
  second-fault places j c f =
      let xs : List Item = items first a.one.es in
      let p : Clean B t first xs (course true B 0 [] xs) places = rw (accepted-ahead t a.one) at c in
      let g : course true B 0 [] (items second a.two.es) ≡ fault j = rw (accepted-ahead t a.two) at f in
      rw (a.one.list, a.two.list, p.same, g)

-- .. and have no fault: what is put is the joined list
pub accepted-joined : {d : Sizes} {cells first second : List ℕ} {rest other : Rest} {places others : List ℕ} → Holds d cells → Bytes first → Bytes second
    → BothAccepted d.t first rest second other
    → EntriesPassed true (tables_of cells) d.t first rest.at rest.left places (Ok tt)
    → EntriesPassed true (tables_of cells) d.t second other.at other.left others (Ok tt)
    → (lent : List ℕ) (o : Result ℕ Unjoined × List ℕ) → o ≡ fitted Ok (λ r. Err (Refused r)) (written (count_to places others d.s) ++ pieces_to first places second others d.s) lent
    → o ≡ joined_in (tables_of cells) first (list_of d.t first) second (list_of d.t second) lent
accepted-joined {d} {cells} {first} {second} {places} {others} h b c a e f lent o g =
    let B : Tables = tables_of cells in
    let xs : List Item = items first a.one.es in
    let ys : List Item = items second a.two.es in
    let p : Clean B d.t first xs (course true B 0 [] xs) places = rw (accepted-ahead d.t a.one) at e in
    let q : Clean B d.t second ys (course true B 0 [] ys) others = rw (accepted-ahead d.t a.two) at f in
    let few = h.small.terminals in
    let most = h.small.states in
    let pieces = pieces-joined B first places second others xs ys b c few p.kept q.kept d.s (omega arith) in
    let count = count-joined B first places second others xs ys b c few p.kept q.kept d.s (omega arith) in
    let whole : written (count_to places others d.s) ++ pieces_to first places second others d.s ≡ joined_bytes B xs ys = rw (pieces, count, ← states-are h) in
    rw (a.one.list, a.two.list, p.same, q.same) (rw whole at g)

-- ---- what stops it before that, and what does not
module _ (t : ℕ) (B : Tables) (first second lent : List ℕ) where
  pub first-unlisted : (r : Refusal) → listing first (list_of t first) ≡ Err r → (Err (ListRefused First r), lent) ≡ joined_in B first (list_of t first) second (list_of t second) lent
  first-unlisted r e = rw (list-refused first (list_of t first) e)

  pub second-unlisted : {rest : Rest} (r : Refusal) → ListAccepted first (list_of t first) rest → listing second (list_of t second) ≡ Err r
      → (Err (ListRefused Second r), lent) ≡ joined_in B first (list_of t first) second (list_of t second) lent
  second-unlisted r l e = rw (l.list, list-refused second (list_of t second) e)

module _ (cells first second lent : List ℕ) where
  pub joins-unbooked : (r : Refusal) → checked (of_cells cells) ≡ Err r → (Err (Refused r), lent) ≡ joins cells first second lent
  unfolding joins
  joins-unbooked r e = rw e

  pub joins-booked : (d : Sizes) → checked (of_cells cells) ≡ Ok d
      → joins cells first second lent ≡ joined_in (tables_of cells) first (list_of d.t first) second (list_of d.t second) lent
  unfolding joins
  joins-booked d e = rw e
