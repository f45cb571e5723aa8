-- The reader of an accepted list gives its entries one after another, then none for ever, and says how many remain; that of a refused list gives
-- none, and has the refusal. Assumes nothing.
use Rattle.std.specs.Prelude.{Option, Result, Ok, Err, Some, None}
use Rattle.std.proofs.Math.Path.{◌≡◌, refl}
use Rattle.std.proofs.Common.{sym, ◌∙◌, ap, le-ltb, ne_eqb}
use mathlib.Core.List.{List, [], ◌∷◌}
use Prim.Native.Nat.{ℕ, zero, suc, ◌-◌, ◌≤◌, ◌<◌}
use native.Mathlib.Omega.{arith}
use Rattle.std.proofs.Math.Decide.{dec_lt, ℕ_discrete}
use Rattle.std.proofs.Math.ListN.{length}
use Rattle.number.specs.PairLaws.{some-is}
use Rattle.number.specs.TestLaws.{tests}
use Rattle.std.specs.Borrow.{Bor}
use Rattle.number.specs.Number.{Number, number_at}
use Rattle.number.specs.Cause.{number_of}
use Rattle.number.specs.declared.Cursor.{Cursor}
use Rattle.number.specs.declared.cause.Refusal.{Refusal}
use Rattle.book.specs.Book.{Row, read, refused as unread, admitted, of_cells, checked, cell_at}
use Rattle.book.specs.BookLaws.{readable}
use Rattle.book.specs.Tables.{sizes_of}
use Rattle.lists.specs.Entry.{entry_at}
use Rattle.lists.proofs.EntryLaws.{admitted-found, entry-wider}
use Rattle.lists.specs.List.{Listed, entries, refused, entries_at, closed, count_fault, list_of, against, list_in, after, listing, entry_of, given, next_at}
use Rattle.lists.proofs.ListLaws.{entries-front, entries-count, refused-not-entries}
use Rattle.lists.specs.Reading.{opened, start_of, onward, turn_of, moved}
use Rattle.lists.specs.RefusalLaws.{refusal-numbered}
use Rattle.lists.specs.ReadingLaws.{EntriesHeld}
use Rattle.lists.specs.declared.Entry.{Entry}
use Rattle.lists.specs.declared.Reader.{Reader}
use Rattle.lists.specs.declared.Rest.{Rest}

module _ (bytes : List ℕ) where
  -- how many remain
  pub holds-count : (rest : Rest) (es : List Entry) → EntriesHeld bytes rest es → rest.left ≡ length es
  holds-count rest es h = sym (entries-count h.t bytes rest.left rest.at es h.end h.ahead)

  -- none after the last
  pub holds-none : (rest : Rest) → EntriesHeld bytes rest [] → next_at bytes rest.at rest.left ≡ None
  unfolding next_at
  holds-none rest h = simp (tests, holds-count rest [] h)

  -- the next, and the rest after it
  pub record ReaderOnward (rest : Rest) (e : Entry) (es : List Entry) : Type 0 where
    pub more : Rest
    pub gives : next_at bytes rest.at rest.left ≡ Some (e, more)
    pub holds : EntriesHeld bytes more es

  pub holds-next : (rest : Rest) (e : Entry) (es : List Entry) → EntriesHeld bytes rest (e ∷ es) → ReaderOnward rest e es
  unfolding next_at
  holds-next rest e es h =
      let k : rest.left ≡ suc (rest.left - 1) = omega (arith, holds-count rest (e ∷ es) h) in
      let f = entries-front h.t bytes (rest.left - 1) rest.at (e ∷ es) h.end (rw k at h.ahead) in
      let i : f.entry ≡ e = cc f.split in
      let j : f.rest ≡ es = cc f.split in
      let wide = entry-wider h.t bytes rest.at 32 h.few f.entry f.next f.found in
      record {
        more = record { at = f.next.at; left = rest.left - 1 };
        gives = rw (ne_eqb rest.left 0 (omega (arith, k)), wide, i);
        holds = record { t = h.t; few = h.few; end = h.end; ahead = rw j at f.onward; closed = h.closed };
      }

-- ---- the start: the rest that `check_list` answers holds the list's entries
module _ (bytes : List ℕ) (es : List Entry) (end : ℕ) where
  -- the entries stand after the count, and nothing after them
  pub record Located (t : ℕ) : Type 0 where
    pub ahead : entries_at t bytes (length es) (after (number_at bytes 0)) ≡ entries es end
    pub closed : length bytes ≤ end

  pub list-ahead : (t : ℕ) → list_of t bytes ≡ entries es end → Located t
  unfolding list_of
  list-ahead t e = by_count (admitted count_fault 0 (number_at bytes 0)) refl
    where
      by_end : (n : ℕ) (next : Cursor) → admitted count_fault 0 (number_at bytes 0) ≡ Ok (n, next) → (xs : List Entry) (last : ℕ)
          → entries_at t bytes n next.at ≡ entries xs last → closed (length bytes) (entries xs last) ≡ entries es end → Dec (last < length bytes)
          → Located t
      by_end n next f xs last g i (yes h) = absurd (refused-not-entries _ es end (simp tests at i))
      by_end n next f xs last g i (no h) =
          let j : entries xs last ≡ entries es end = rw (le-ltb last (length bytes) (omega arith)) at i in
          let ahead : entries_at t bytes n next.at ≡ entries es end = g ∙ j in
          let first : after (number_at bytes 0) ≡ next.at = rw (admitted-found count_fault 0 (number_at bytes 0) n next f).0 in
          let same : last ≡ end = cc in
          record { ahead = rw (first, entries-count t bytes n next.at es end ahead) ahead; closed = omega arith }

      by_entries : (n : ℕ) (next : Cursor) → admitted count_fault 0 (number_at bytes 0) ≡ Ok (n, next) → (l : Listed)
          → entries_at t bytes n next.at ≡ l → closed (length bytes) l ≡ entries es end → Located t
      by_entries n next f (refused r) g i = absurd (refused-not-entries r es end i)
      by_entries n next f (entries xs last) g i = by_end n next f xs last g i (dec_lt last (length bytes))

      by_count : (m : Number) → admitted count_fault 0 (number_at bytes 0) ≡ m → Located t
      by_count (Err r) f = absurd (refused-not-entries r es end (rw f at e))
      by_count (Ok (n, next)) f = by_entries n next f (entries_at t bytes n next.at) refl (rw f at e)

  list-holds : (t : ℕ) → t ≤ 32 → list_of t bytes ≡ entries es end → EntriesHeld bytes (record { at = after (number_at bytes 0); left = length es }) es
  list-holds t few e = let a = list-ahead t e in record { t = t; few = few; end = end; ahead = a.ahead; closed = a.closed }

  pub listed-holds : (cells : List ℕ) → list_in cells bytes ≡ entries es end
      → (rest : Rest) × (listing bytes (list_in cells bytes) ≡ Ok rest) × EntriesHeld bytes rest es
  unfolding list_in of_cells
  listed-holds cells e = (record { at = after (number_at bytes 0); left = length es }, rw e, by-book (of_cells cells) refl e)
    where
      by-book : (w : Row) → of_cells cells ≡ w → against w bytes ≡ entries es end → EntriesHeld bytes (record { at = after (number_at bytes 0); left = length es }) es
      by-book (unread r) f g = absurd (refused-not-entries r es end g)
      by-book (read out next) f g =
          let small = (readable (cell_at cells) (length cells) (sizes_of out) (ap checked f)).small in
          list-holds (sizes_of out).t small.terminals g

-- ---- one turn
module _ (bytes : List ℕ) (at : ℕ) where
  pub none_left : next_at bytes at 0 ≡ None
  unfolding next_at
  none_left = refl

  -- what is given does not remain
  pub next-fewer : (left : ℕ) (e : Entry) (rest : Rest) → next_at bytes at left ≡ Some (e, rest) → rest.left < left
  unfolding next_at
  next-fewer left e rest f = go (ℕ_discrete left 0)
    where
      by-step : (s : Result (Entry × Cursor) Refusal) → ¬ (left ≡ 0) → given left s ≡ Some (e, rest) → rest.left < left
      by-step (Err r) z g = absurd (let i : ◌≡◌ {A = ℕ} 0 1 = cc in omega arith)
      by-step (Ok (x, next)) z g = let i : left - 1 ≡ rest.left = ap (λ (r : Rest). r.left) (some-is g).1 in omega arith

      go : Dec (left ≡ 0) → rest.left < left
      go (yes z) = absurd (let g : None ≡ Some (e, rest) = simp tests at f in let i : ◌≡◌ {A = ℕ} 0 1 = cc in omega arith)
      go (no z) = by-step (entry_at 32 bytes at) z (simp tests at f)

-- ---- a reader after k turns
abbrev pub turns : ℕ → Reader → Reader
turns zero r = r
turns (suc k) r = turns k (moved r)

-- a reader of the entries es after k turns: the next turn gives entry k, or none where there is none; and so many remain
pub record Reads (r : Reader) (es : List Entry) (k : ℕ) : Type 0 where
  pub gives : turn_of (turns k r) ≡ entry_of es k
  pub remain : (turns k r).rest.left ≡ length es - k

abbrev onto : Reader → Rest → Reader
onto r rest = record { list = r.list; rest = rest; refusal = r.refusal }

-- one turn, and then k
reads_on : (k : ℕ) (r q : Reader) (es xs : List Entry) → moved r ≡ q → entry_of es (suc k) ≡ entry_of xs k → length es - suc k ≡ length xs - k → Reads q xs k
    → Reads r es (suc k)
reads_on k r q es xs on e n i = record {
  gives = ap (λ (p : Reader). turn_of (turns k p)) on ∙ i.gives ∙ sym e;
  remain = ap (λ (p : Reader). (turns k p).rest.left) on ∙ i.remain ∙ sym n;
}

pub turns-given : (k : ℕ) (r : Reader) (es : List Entry) → EntriesHeld r.list.now r.rest es → Reads r es k
turns-given zero r [] h = record { gives = rw (holds-none r.list.now r.rest h); remain = omega (arith, holds-count r.list.now r.rest [] h) }
turns-given zero r (e ∷ es) h =
    let o = holds-next r.list.now r.rest e es h in
    record { gives = rw o.gives; remain = omega (arith, holds-count r.list.now r.rest (e ∷ es) h) }
turns-given (suc k) r [] h = reads_on k r r [] [] (rw (holds-none r.list.now r.rest h)) refl (omega arith) (turns-given k r [] h)
turns-given (suc k) r (e ∷ es) h =
    let o = holds-next r.list.now r.rest e es h in
    reads_on k r (onto r o.more) (e ∷ es) es (rw o.gives) refl (omega arith) (turns-given k (onto r o.more) es o.holds)

-- where none is left, none is given, and the reader stays
pub reader-turns-none : (k : ℕ) (r : Reader) → r.rest.left ≡ 0 → (turn_of (turns k r) ≡ None) × (turns k r ≡ r)
reader-turns-none zero r z = (rw (z, none_left r.list.now r.rest.at), refl)
reader-turns-none (suc k) r z =
    let stays : moved r ≡ r = rw (ap (next_at r.list.now r.rest.at) z, none_left r.list.now r.rest.at) in
    let (g, s) = reader-turns-none k r z in
    (ap (λ (q : Reader). turn_of (turns k q)) stays ∙ g, ap (turns k) stays ∙ s)

-- a turn leaves the refusal as it is
turns-refusal : (k : ℕ) (r : Reader) → (turns k r).refusal ≡ r.refusal
turns-refusal zero r = refl
turns-refusal (suc k) r = turns-refusal k (moved r) ∙ same (next_at r.list.now r.rest.at r.rest.left)
  where
    same : (o : Option (Entry × Rest)) → (onward r o).refusal ≡ r.refusal
    same None = refl
    same (Some (e, rest)) = refl

-- ---- the reader that `start` makes
module _ (cells : List ℕ) (list : Bor (List ℕ)) where
  -- of an accepted list: its entries in order, then none for ever; how many remain, at every moment; and no refusal
  pub accepted-reads : (es : List Entry) (end : ℕ) → list_in cells list.now ≡ entries es end → (k : ℕ) → Reads (start_of cells list) es k × ((turns k (start_of cells list)).refusal ≡ None)
  accepted-reads es end e k =
      let (rest, is, holds) = listed-holds list.now es end cells e in
      let begun : start_of cells list ≡ opened list (Ok rest) = rw is in
      rw begun (turns-given k (opened list (Ok rest)) es holds, turns-refusal k (opened list (Ok rest)))

  -- of a refused list or book: none for ever, and always the refusal, whose number is not 0
  pub refused-reads : (r : Refusal) → list_in cells list.now ≡ refused r → (k : ℕ)
      → (turn_of (turns k (start_of cells list)) ≡ None) × (turns k (start_of cells list) ≡ opened list (Err r)) × (1 ≤ number_of r.cause)
  refused-reads r e k =
      let begun : start_of cells list ≡ opened list (Err r) = rw e in
      let (given, stays) = reader-turns-none k (opened list (Err r)) refl in
      rw begun (given, stays, refusal-numbered cells list.now r e)
