-- Laws of how a list is written: reading and writing undo each other, and what is written are bytes. Assumes nothing.
use mathlib.Core.List.{List, [], ◌∷◌, ◌++◌, append_assoc, append-nil}
use Rattle.std.specs.Prelude.{Result, None, Ok, Err, ◌≡◌, take}
use Rattle.std.proofs.Math.Path.{refl, ap}
use Rattle.std.proofs.Common.{sym, ◌∙◌, add-zero, arith, le-ltb, length-append, drop_of_length-le, take_at}
use Prim.Native.Nat.{ℕ, zero, suc, ◌+◌, ◌≤◌, ◌<◌}
use Rattle.std.proofs.Math.Decide.{dec_lt}
use Rattle.std.proofs.Math.ListN.{length, drop}
use Rattle.std.proofs.lemmas.List.{length-map}
use Rattle.number.specs.TestLaws.{tests}
use Rattle.number.specs.Number.{Number, number_at, written, value}
use Rattle.number.specs.NumberLaws.{Bytes, NumberStands, first-stands, number-onward}
use Rattle.number.specs.declared.Cursor.{Cursor}
use Rattle.number.specs.declared.cause.Cause.{Cause}
use Rattle.number.specs.declared.cause.Refusal.{Refusal}
use Rattle.book.specs.Book.{admitted, bytes_of}
use Rattle.book.specs.BytesLaws.{bytes-append}
use Rattle.book.specs.RoundTripLaws.{past, number-written, numbers-bytes}
use Rattle.lists.specs.Entry.{entry_at}
use Rattle.lists.proofs.EntryLaws.{inside, outside-none, admitted-found}
use Rattle.lists.specs.List.{entries, entries_at, count_fault, list_of, after, listing}
use Rattle.lists.specs.ListLaws.{end_of, list_closing}
use Rattle.lists.proofs.ListLaws.{entries-front, listing-on, refused-not-entries}
use Rattle.lists.proofs.ReadingLaws.{list-ahead}
use Rattle.lists.specs.declared.Entry.{Entry}
use Rattle.lists.specs.declared.Rest.{Rest}
use Rattle.items.specs.EntryLaws.{entry-valid, entry-bytes, item-read}
use Rattle.items.specs.Items.{Item, item_of, items, item_numbers, numbers_of, list_bytes}
use Rattle.items.specs.Valid.{AllValid, none, more}

pub list-bytes : (xs : List Item) → Bytes (list_bytes xs)
list-bytes xs = numbers-bytes (length xs ∷ numbers_of xs)

-- the bytes of one entry more
pub numbers_more : (x : Item) (xs : List Item) → bytes_of (numbers_of (x ∷ xs)) ≡ bytes_of (item_numbers x) ++ bytes_of (numbers_of xs)
unfolding numbers_of
numbers_more x xs = bytes-append (item_numbers x) (numbers_of xs)

pub numbers-length : (x : Item) (xs : List Item) → length (bytes_of (numbers_of (x ∷ xs))) ≡ length (bytes_of (item_numbers x)) + length (bytes_of (numbers_of xs))
numbers-length x xs = ap length (numbers_more x xs) ∙ length-append (bytes_of (item_numbers x)) (bytes_of (numbers_of xs))

-- the bytes of entries after one another
pub numbers-append : (xs ys : List Item) → bytes_of (numbers_of (xs ++ ys)) ≡ bytes_of (numbers_of xs) ++ bytes_of (numbers_of ys)
unfolding numbers_of
numbers-append [] ys = refl
numbers-append (x ∷ xs) ys =
    numbers_more x (xs ++ ys)
    ∙ ap (λ (l : List ℕ). bytes_of (item_numbers x) ++ l) (numbers-append xs ys)
    ∙ sym (append_assoc (bytes_of (item_numbers x)) (bytes_of (numbers_of xs)) (bytes_of (numbers_of ys)))
    ∙ ap (λ (l : List ℕ). l ++ bytes_of (numbers_of ys)) (sym (numbers_more x xs))

-- ---- the count of a list that was read
closing-count : (first count end : ℕ) (n : Result ℕ Refusal) (rest : Rest) → list_closing first count end n ≡ Ok rest → count ≡ rest.left
closing-count first count end (Err r) rest e = absurd (let z : ◌≡◌ {A = ℕ} 0 1 = cc in omega arith)
closing-count first count end (Ok at) rest e = go (dec_lt at end)
  where
    go : Dec (at < end) → count ≡ rest.left
    go (yes h) = absurd (let f : Err _ ≡ Ok rest = simp tests at e in let z : ◌≡◌ {A = ℕ} 0 1 = cc in omega arith)
    go (no h) =
        let f : Ok (record { at = first; left = count }) ≡ Ok rest = rw (le-ltb at end (omega arith)) at e in
        let r : ◌≡◌ {A = Rest} (record { at = first; left = count }) rest = cc in
        ap (λ (s : Rest). s.left) r

pub record Counted (bytes : List ℕ) (es : List Entry) : Type 0 where
  pub found : number_at bytes 0 ≡ value (length es) (after (number_at bytes 0))
  pub few : length es ≤ 128
  pub onward : 1 ≤ after (number_at bytes 0)

module _ (t : ℕ) (bytes : List ℕ) {es : List Entry} {end : ℕ} (e : list_of t bytes ≡ entries es end) where
  pub list_counted : Counted bytes es
  unfolding list_of
  list_counted = go (admitted count_fault 0 (number_at bytes 0)) refl
    where
      go : (n : Number) → admitted count_fault 0 (number_at bytes 0) ≡ n → Counted bytes es
      go (Err r) f = absurd (refused-not-entries r es end (rw f at e))
      go (Ok (n, next)) f =
          let (found, clean) = admitted-found count_fault 0 (number_at bytes 0) n next f in
          let low = inside 0 129 Cause.Entries n clean in
          let count : n ≡ length es =
          closing-count next.at n (length bytes) (end_of (entries_at t bytes n next.at)) (record { at = after (number_at bytes 0); left = length es })
          (listing-on t bytes n next f ∙ ap (listing bytes) e) in
          record { found = rw found (rw count refl); few = omega (arith, low.1, count); onward = rw found (number-onward bytes 0 n next found) }

  pub items-few : length es ≤ 128
  items-few = list_counted.few

  -- the entries begin after the count
  pub after-some : 1 ≤ after (number_at bytes 0)
  after-some = list_counted.onward

-- ---- the entries of a list that was read: a list can have them, and they stand there as they are written
module _ {t : ℕ} (bytes : List ℕ) (few : t ≤ 32) where
  entries-valid : (k at : ℕ) (es : List Entry) (end : ℕ) → entries_at t bytes k at ≡ entries es end → AllValid t (items bytes es)
  unfolding entries_at
  entries-valid zero at es end e =
      let nothing : [] ≡ es = cc in
      rw (← nothing) none
  entries-valid (suc k) at es end e =
      let f = entries-front t bytes k at es end e in
      rw f.split (more (entry-valid bytes at few f.found) (entries-valid k f.next.at f.rest end f.onward))

  entries-written : Bytes bytes → (k at : ℕ) (es : List Entry) (end : ℕ) → entries_at t bytes k at ≡ entries es end
      → drop at bytes ≡ bytes_of (numbers_of (items bytes es)) ++ drop end bytes
  unfolding entries_at numbers_of
  entries-written b zero at es end e =
      let nothing : [] ≡ es = cc in
      let same : at ≡ end = cc in
      rw (← nothing, same)
  entries-written b (suc k) at es end e =
      let f = entries-front t bytes k at es end e in
      let x = item_of bytes f.entry in
      let r = entries-written b k f.next.at f.rest end f.onward in
      let ys = items bytes f.rest in
      let all : bytes_of (item_numbers x) ++ drop f.next.at bytes ≡ bytes_of (numbers_of (x ∷ ys)) ++ drop end bytes =
      rw (numbers_more x ys, append_assoc (bytes_of (item_numbers x)) (bytes_of (numbers_of ys)), r) in
      entry-bytes bytes at b few f.found ∙ all ∙ ap (λ (l : List Entry). bytes_of (numbers_of (items bytes l)) ++ drop end bytes) (sym f.split)

-- ---- a list that was read
pub items-valid : (t : ℕ) (bytes : List ℕ) {es : List Entry} {end : ℕ} → t ≤ 32 → list_of t bytes ≡ entries es end → AllValid t (items bytes es)
items-valid t bytes {es} {end} few e = entries-valid bytes few (length es) (after (number_at bytes 0)) es end (list-ahead bytes es end t e).ahead

-- its count stands at the front
count-stands : (t : ℕ) (bytes : List ℕ) {es : List Entry} {end : ℕ} → Bytes bytes → list_of t bytes ≡ entries es end
    → NumberStands 0 bytes (length es) (after (number_at bytes 0))
unfolding number_at
count-stands t bytes {es} b e = first-stands 0 bytes (length es) (after (number_at bytes 0)) b (list_counted t bytes e).found

pub list-front : (t : ℕ) (bytes : List ℕ) {es : List Entry} {end : ℕ} → Bytes bytes → list_of t bytes ≡ entries es end
    → (take (after (number_at bytes 0)) bytes ≡ written (length es)) × (1 ≤ after (number_at bytes 0))
list-front t bytes {es} b e =
    let s = count-stands t bytes b e in
    let first = after (number_at bytes 0) in
    (ap (take first) s.whole ∙ take_at (written (length es)) s.rest first (omega (arith, s.after)), after-some t bytes e)

-- writing what was read gives the list
pub list_written : (t : ℕ) (bytes : List ℕ) {es : List Entry} {end : ℕ} → Bytes bytes → t ≤ 32 → list_of t bytes ≡ entries es end → list_bytes (items bytes es) ≡ bytes
list_written t bytes {es} {end} b few e =
    let a = list-ahead bytes es end t e in
    let s = count-stands t bytes b e in
    let numbers : s.rest ≡ bytes_of (numbers_of (items bytes es)) =
    sym (rw (← s.after) at (past bytes 0 (written (length es)) s.rest s.whole))
    ∙ entries-written bytes few b (length es) (after (number_at bytes 0)) es end a.ahead
    ∙ rw (drop_of_length-le bytes a.closed, append-nil) in
    sym (s.whole ∙ rw (numbers, length-map))

-- ---- reading what was written
entries-joined : (t : ℕ) (bytes : List ℕ) (k at : ℕ) (e : Entry) (next : Cursor) (es : List Entry) (end : ℕ) → entry_at t bytes at ≡ Ok (e, next)
    → entries_at t bytes k next.at ≡ entries es end → entries_at t bytes (suc k) at ≡ entries (e ∷ es) end
unfolding entries_at
entries-joined t bytes k at e next es end f g = rw (f, g)

entries-read : {t : ℕ} {xs : List Item} (bytes : List ℕ) (at : ℕ) → t ≤ 32 → AllValid t xs → drop at bytes ≡ bytes_of (numbers_of xs)
    → (es : List Entry) × (entries_at t bytes (length xs) at ≡ entries es (at + length (bytes_of (numbers_of xs)))) × (items bytes es ≡ xs)
unfolding entries_at numbers_of
entries-read bytes at few none e = ([], rw add-zero refl, refl)
entries-read {t} bytes at few (more {x} {xs} v vs) e =
    let f : drop at bytes ≡ bytes_of (item_numbers x) ++ bytes_of (numbers_of xs) = e ∙ numbers_more x xs in
    let r = item-read bytes at (bytes_of (numbers_of xs)) few v f in
    let next = at + length (bytes_of (item_numbers x)) in
    let (es, found, says) = entries-read bytes next few vs (past bytes at (bytes_of (item_numbers x)) (bytes_of (numbers_of xs)) f) in
    let end : next + length (bytes_of (numbers_of xs)) ≡ at + length (bytes_of (numbers_of (x ∷ xs))) = omega (arith, numbers-length x xs) in (
      r.entry ∷ es,
      entries-joined t bytes (length xs) at r.entry (record { at = next }) es (next + length (bytes_of (numbers_of xs))) r.found found ∙ ap (entries (r.entry ∷ es)) end,
      ap (λ (y : Item). y ∷ items bytes es) r.says ∙ ap (λ (l : List Item). x ∷ l) says,
    )

pub written_listed : {t : ℕ} {xs : List Item} → t ≤ 32 → AllValid t xs → length xs ≤ 128
    → (es : List Entry) × (end : ℕ) × (list_of t (list_bytes xs) ≡ entries es end) × (items (list_bytes xs) es ≡ xs)
unfolding list_of
written_listed {t} {xs} few v h =
    let bytes : List ℕ = list_bytes xs in
    let n = number-written bytes 0 (length xs) (bytes_of (numbers_of xs)) (omega arith) refl in
    let clean : count_fault (length xs) ≡ None = outside-none 0 129 Cause.Entries (length xs) (omega arith) (omega arith) in
    let first = 0 + length (written (length xs)) in
    let (es, found, says) = entries-read bytes first few v (past bytes 0 (written (length xs)) (bytes_of (numbers_of xs)) refl) in
    let end = first + length (bytes_of (numbers_of xs)) in
    let whole : length bytes ≤ end = omega (arith, length-append (written (length xs)) (bytes_of (numbers_of xs))) in
    (es, end, rw (n, clean, found, le-ltb end (length bytes) whole), says)
