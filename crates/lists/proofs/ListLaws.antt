-- Laws of a list of sentences: entry by entry, and what holds of the entries that were read. Assumes nothing.
use Rattle.std.specs.Prelude.{⊤, ltb, Result, Ok, Err}
use Rattle.std.proofs.Math.Path.{◌≡◌, refl}
use Rattle.std.proofs.Common.{sym, ◌∙◌, ap, le-ltb}
use mathlib.Core.List.{List, []}
use Prim.Native.Nat.{ℕ, zero, suc, ◌+◌, ◌-◌, ◌≤◌, ◌<◌}
use Rattle.std.proofs.Math.Decide.{dec_lt}
use native.Mathlib.Omega.{arith}
use Rattle.std.proofs.Math.ListN.{length}
use Rattle.number.specs.TestLaws.{tests}
use Rattle.number.specs.Number.{number_at, value}
use Rattle.number.specs.declared.Cursor.{Cursor}
use Rattle.number.specs.declared.cause.Refusal.{Refusal}
use Rattle.book.specs.Book.{Row, read, refused as unread, admitted, of_cells, checked}
use Rattle.book.specs.BookLaws.{checked-faulty}
use Rattle.book.specs.Tables.{sizes_of}
use Rattle.book.specs.declared.Sizes.{Sizes}
use Rattle.lists.specs.Entry.{entry_at}
use Rattle.lists.proofs.EntryLaws.{admitted-found}
use Rattle.book.specs.Call.{step}
use Rattle.book.specs.CallLaws.{step-refuses, step-passes}
use Rattle.number.specs.declared.cause.Cause.{Cause}
use Rattle.lists.specs.List.{Listed, entries, refused, before, entries_at, closed, count_fault, list_of, against, list_in, listing}
use Rattle.lists.specs.ListLaws.{end_of, list_closing, EntryFront}
use Rattle.lists.specs.declared.Entry.{Entry}

pub end_before : (e : Entry) (l : Listed) → end_of (before e l) ≡ end_of l
end_before e (entries es at) = refl
end_before e (refused r) = refl

-- ---- a list of n entries at its entry i, as a loop has it
module _ (t : ℕ) (bytes : List ℕ) (n i at : ℕ) where
  pub entries-more : (e : Entry) (next : Cursor) → i < n → entry_at t bytes at ≡ Ok (e, next)
      → entries_at t bytes (n - i) at ≡ before e (entries_at t bytes (n - (i + 1)) next.at)
  unfolding entries_at
  entries-more e next h f =
      let k : n - i ≡ suc (n - (i + 1)) = omega arith in
      rw (k, f)

  pub entries-stop : (r : Refusal) → i < n → entry_at t bytes at ≡ Err r → entries_at t bytes (n - i) at ≡ refused r
  unfolding entries_at
  entries-stop r h f =
      let k : n - i ≡ suc (n - (i + 1)) = omega arith in
      rw (k, f)

  pub entries-done : n ≤ i → entries_at t bytes (n - i) at ≡ entries [] at
  unfolding entries_at
  entries-done h = let k : n - i ≡ 0 = omega arith in rw k

-- a loop that keeps no entry: i of n entries are read, and the next stands at an offset
pub record ListPassed (t : ℕ) (bytes : List ℕ) (n start i at : ℕ) : Type 0 where
  pub left : end_of (entries_at t bytes n start) ≡ end_of (entries_at t bytes (n - i) at)

module _ {t : ℕ} {bytes : List ℕ} {n start : ℕ} where
  pub list-passed-none : ListPassed t bytes n start 0 start
  list-passed-none = let k : n - 0 ≡ n = omega arith in record { left = rw k }

  pub list-passed-more : {i at : ℕ} {e : Entry} {next : Cursor} → ListPassed t bytes n start i at → i < n → entry_at t bytes at ≡ Ok (e, next)
      → ListPassed t bytes n start (i + 1) next.at
  list-passed-more {i} {at} {e} {next} p h f =
      record { left = p.left ∙ ap end_of (entries-more t bytes n i at e next h f) ∙ end_before e (entries_at t bytes (n - (i + 1)) next.at) }

  pub passed-stop : {i at : ℕ} {r : Refusal} → ListPassed t bytes n start i at → i < n → entry_at t bytes at ≡ Err r
      → Err r ≡ end_of (entries_at t bytes n start)
  passed-stop {i} {at} {r} p h f = sym (p.left ∙ ap end_of (entries-stop t bytes n i at r h f))

  pub passed-done : {i at : ℕ} → ListPassed t bytes n start i at → n ≤ i → Ok at ≡ end_of (entries_at t bytes n start)
  passed-done {i} {at} p h = sym (p.left ∙ ap end_of (entries-done t bytes n i at h))

-- ---- entries that were read
pub refused-not-entries : (r : Refusal) (es : List Entry) (end : ℕ) → refused r ≡ entries es end → ⊥
refused-not-entries r es end e = let z : ◌≡◌ {A = ℕ} 0 1 = cc in omega arith

module _ (t : ℕ) (bytes : List ℕ) where
  pub entries-front : (k at : ℕ) (es : List Entry) (end : ℕ) → entries_at t bytes (suc k) at ≡ entries es end → EntryFront t bytes k at es end
  unfolding entries_at
  entries-front k at es end e = by-entry (entry_at t bytes at) refl
    where
      by-rest : (x : Entry) (c : Cursor) → entry_at t bytes at ≡ Ok (x, c) → (l : Listed) → entries_at t bytes k c.at ≡ l
          → before x l ≡ entries es end → EntryFront t bytes k at es end
      by-rest x c f (refused r) g h = absurd (refused-not-entries r es end h)
      by-rest x c f (entries xs last) g h =
          let j : last ≡ end = cc in
          record { entry = x; next = c; rest = xs; found = f; split = cc; onward = rw j at g }

      by-entry : (s : Result (Entry × Cursor) Refusal) → entry_at t bytes at ≡ s → EntryFront t bytes k at es end
      by-entry (Err r) f = absurd (refused-not-entries r es end (rw f at e))
      by-entry (Ok (x, c)) f = by-rest x c f (entries_at t bytes k c.at) refl (rw f at e)

  pub entries_none : (at : ℕ) (es : List Entry) (end : ℕ) → entries_at t bytes 0 at ≡ entries es end → [] ≡ es
  unfolding entries_at
  entries_none at es end e = cc

  pub entries-count : (k at : ℕ) (es : List Entry) (end : ℕ) → entries_at t bytes k at ≡ entries es end → length es ≡ k
  entries-count zero at es end e = ap length (sym (entries_none at es end e))
  entries-count (suc k) at es end e =
      let f = entries-front k at es end e in
      rw f.split (ap suc (entries-count k f.next.at f.rest end f.onward))

-- ---- the verdict
module _ (t : ℕ) (bytes : List ℕ) where
  pub listing-stop : (r : Refusal) → admitted count_fault 0 (number_at bytes 0) ≡ Err r → Err r ≡ listing bytes (list_of t bytes)
  unfolding list_of
  listing-stop r e = rw e

  pub listing-on : (n : ℕ) (next : Cursor) → admitted count_fault 0 (number_at bytes 0) ≡ Ok (n, next)
      → list_closing next.at n (length bytes) (end_of (entries_at t bytes n next.at)) ≡ listing bytes (list_of t bytes)
  unfolding list_of
  listing-on n next e = rw e (by_entries (entries_at t bytes n next.at) refl)
    where
      by_end : (es : List Entry) (at : ℕ) → entries_at t bytes n next.at ≡ entries es at → Dec (at < length bytes)
          → list_closing next.at n (length bytes) (Ok at) ≡ listing bytes (closed (length bytes) (entries es at))
      by_end es at f (yes h) = simp tests
      by_end es at f (no h) =
          rw (le-ltb at (length bytes) (omega arith), (admitted-found count_fault 0 (number_at bytes 0) n next e).0, entries-count t bytes n next.at es at f)

      by_entries : (l : Listed) → entries_at t bytes n next.at ≡ l
          → list_closing next.at n (length bytes) (end_of l) ≡ listing bytes (closed (length bytes) l)
      by_entries (refused r) f = refl
      by_entries (entries es at) f = by_end es at f (dec_lt at (length bytes))

  pub listing-end : (n : ℕ) (next : Cursor) {last : Result ℕ Refusal} → admitted count_fault 0 (number_at bytes 0) ≡ Ok (n, next) → last ≡ end_of (entries_at t bytes n next.at)
      → list_closing next.at n (length bytes) last ≡ listing bytes (list_of t bytes)
  listing-end n next e f = ap (list_closing next.at n (length bytes)) f ∙ listing-on n next e

-- what follows the last entry is refused
pub closing-stops : (first count end at : ℕ) {r : Refusal} → Err r ≡ step (ltb at end) Cause.Surplus at → Err r ≡ list_closing first count end (Ok at)
closing-stops first count end at e = let (after, same) = step-refuses (ltb at end) Cause.Surplus at e in rw (after, same)

pub closing-passes : (first count end at : ℕ) {u : ⊤} → Ok u ≡ step (ltb at end) Cause.Surplus at
    → Ok (record { at = first; left = count }) ≡ list_closing first count end (Ok at)
closing-passes first count end at e = rw (step-passes (ltb at end) Cause.Surplus at e)

-- the book's verdict first
module _ (cells bytes : List ℕ) where
  pub against-stop : (r : Refusal) → checked (of_cells cells) ≡ Err r → Err r ≡ listing bytes (list_in cells bytes)
  unfolding list_in
  against-stop r e = rw (checked-faulty (of_cells cells) r e)

  pub against-on : (d : Sizes) → checked (of_cells cells) ≡ Ok d → list_of d.t bytes ≡ list_in cells bytes
  unfolding list_in
  against-on d e = by-book (of_cells cells) e
    where
      by-book : (w : Row) → checked w ≡ Ok d → list_of d.t bytes ≡ against w bytes
      by-book (read out next) f = let sizes : sizes_of out ≡ d = cc in rw sizes
      by-book (unread r) f = absurd (let z : ◌≡◌ {A = ℕ} 0 1 = cc in omega arith)

-- a list is read against how many terminals a book has
pub list-alike : (d e : Sizes) (cells other bytes : List ℕ) → checked (of_cells cells) ≡ Ok d → checked (of_cells other) ≡ Ok e → d.t ≡ e.t
    → list_in cells bytes ≡ list_in other bytes
list-alike d e cells other bytes f g same = sym (against-on cells bytes d f) ∙ ap (λ (t : ℕ). list_of t bytes) same ∙ against-on other bytes e g
