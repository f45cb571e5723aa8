-- Laws of one entry: how it is read part by part, and what holds of one that was read; and that symbols are read where they are written. Assumes nothing.
use Rattle.std.proofs.Math.Path.{◌≡◌, refl}
use Rattle.std.proofs.Common.{sym, ◌∙◌, ap, add_assoc, add-zero, arith, length-append, length-take, length-drop, drop_of_length-le, take_all}
use mathlib.Core.List.{List, [], ◌∷◌, ◌++◌, append_assoc}
use Rattle.std.specs.Prelude.{Result, Option, Some, None, Ok, Err, ℕ, zero, suc, ◌+◌, ◌*◌, ◌%◌, ◌-◌, ◌≤◌, ◌<◌, length, get_or, take, drop}
use Rattle.std.proofs.Math.Decide.{dec_le, dec_lt, ℕ_discrete}
use borrow.Author.Tests.{lt-ltb, le-ltb, le-leb, lt-leb, eq-eqb}
use Rattle.number.specs.Number.{Number, number_at, written, first, second, third, value}
use Rattle.number.specs.NumberLaws.{byte_at, value-is, refused-not-value}
use Rattle.number.specs.PairLaws.{ok-is}
use Rattle.number.specs.TestLaws.{tests}
use Rattle.number.specs.declared.cause.Cause.{Cause}
use Rattle.number.specs.declared.Cursor.{Cursor}
use Rattle.number.specs.declared.cause.Refusal.{Refusal}
use Rattle.book.specs.Book.{Row, read, refused, admitted, row, bytes_of}
use Rattle.book.specs.BookLaws.{ends_read, ends-refused}
use Rattle.book.specs.CellsLaws.{row-segment}
use Rattle.book.specs.RoundTripLaws.{past, number-written}
use Rattle.book.specs.RowLaws.{ends, row-front, row-clean}
use Rattle.lists.specs.Entry.{outside, length_fault, symbol_fault, symbol_row, entry_at, lookahead_fault, entry_ended, after_lookahead, after_symbols, part}
use Rattle.lists.specs.EntryLaws.{Symbols, Spelled}
use Rattle.lists.specs.declared.Entry.{Entry}

-- ---- a part of the bytes
pub part_length : (bytes : List ℕ) (start len : ℕ) → start + len ≤ length bytes → length (part bytes start len) ≡ len
part_length bytes start len h = rw (length-take, length-drop) (omega arith)

-- where it runs past their end
pub part_cut : (bytes : List ℕ) (start len : ℕ) → length bytes - start ≤ len → take (length bytes - start) (drop start bytes) ≡ part bytes start len
part_cut bytes start len h =
    let rest : length (drop start bytes) ≤ length bytes - start = rw length-drop (omega arith) in
    take_all _ (drop start bytes) rest ∙ sym (take_all len (drop start bytes) (omega arith))

pub part_none : (bytes : List ℕ) (start len : ℕ) → length bytes ≤ start → [] ≡ part bytes start len
part_none bytes start len h = rw (drop_of_length-le bytes h) (sym (take_all len [] (omega arith)))

-- ---- after the symbols, of which only the end is kept
module _ (t : ℕ) (bytes : List ℕ) (start len : ℕ) where
  pub symbols-stop : (r : Refusal) → ends (symbol_row t bytes start len) ≡ Err r → Err r ≡ after_symbols t bytes start len (symbol_row t bytes start len)
  symbols-stop r e = rw (ends-refused (symbol_row t bytes start len) r e)

  pub symbols-on : (next : ℕ) → ends (symbol_row t bytes start len) ≡ Ok next
      → after_lookahead bytes start len (admitted (lookahead_fault t) next (number_at bytes next)) ≡ after_symbols t bytes start len (symbol_row t bytes start len)
  symbols-on next e = let (vs, f) = ends_read (symbol_row t bytes start len) next e in rw f

-- ---- ranges
some-not-none : {cause : Cause} → Some cause ≡ None → ⊥
some-not-none e = let z : ◌≡◌ {A = ℕ} 0 1 = cc in omega arith

pub outside-none : (least limit : ℕ) (cause : Cause) (v : ℕ) → least ≤ v → v < limit → outside least limit cause v ≡ None
unfolding outside
outside-none least limit cause v g h = simp tests

pub inside : (least limit : ℕ) (cause : Cause) (v : ℕ) → outside least limit cause v ≡ None → (least ≤ v) × (v < limit)
unfolding outside
inside least limit cause v e = go (dec_le least v) (dec_lt v limit)
  where
    go : Dec (least ≤ v) → Dec (v < limit) → (least ≤ v) × (v < limit)
    go (yes g) (yes h) = (g, h)
    go (yes g) (no h) = absurd (some-not-none (rw (le-leb least v g, le-ltb v limit (omega arith)) at e))
    go (no g) d = absurd (some-not-none (rw (lt-leb least v (omega arith)) at e))

-- a number that was admitted was found, and has no fault
pub admitted-found : (fault : ℕ → Option Cause) (at : ℕ) (n : Number) (v : ℕ) (next : Cursor) → admitted fault at n ≡ Ok (v, next) → (n ≡ Ok (v, next)) × (fault v ≡ None)
admitted-found fault at (Err r) v next e = absurd (refused-not-value r v next.at e)
admitted-found fault at (Ok (w, c)) v next e = go (fault w) refl
  where
    go : (o : Option Cause) → fault w ≡ o → (◌≡◌ {A = Number} (Ok (w, c)) (Ok (v, next))) × (fault v ≡ None)
    go None z =
        let f : ◌≡◌ {A = Number} (Ok (w, c)) (Ok (v, next)) = rw z at e in
        (f, rw (ok-is f).0 at z)
    go (Some cause) z = absurd (refused-not-value _ v next.at (rw z at e))

-- a row that was read is read by other faults that find none
pub row-refault : (source : ℕ → Number) (fault other : List ℕ → ℕ → Option Cause) → ((seen : List ℕ) (v : ℕ) → fault seen v ≡ None → other seen v ≡ None)
    → (k : ℕ) (seen : List ℕ) (at : ℕ) (vs : List ℕ) (next : ℕ) → row source fault k seen at ≡ read vs next → row source other k seen at ≡ read vs next
unfolding row
row-refault source fault other h zero seen at vs next e = e
row-refault source fault other h (suc k) seen at vs next e =
    let f = row-front source fault k seen at vs next e in
    let r = row-refault source fault other h k (seen ++ (f.v ∷ [])) f.cursor.at f.rest next f.onward in
    rw (f.found, (h seen f.v f.clean), r)
    (ap (λ (l : List ℕ). read l next) (sym f.split))

-- ---- an entry that was read
pub record Parts (t : ℕ) (bytes : List ℕ) (at : ℕ) (e : Entry) (next : Cursor) : Type 0 where
  pub begins : number_at bytes at ≡ value e.len e.start
  pub short : e.len ≤ 1000
  pub symbols : List ℕ
  pub last : ℕ
  pub spelled : symbol_row t bytes e.start e.len ≡ read symbols last
  pub looked : Cursor
  pub looks : number_at bytes last ≡ Ok (e.lookahead, looked)
  pub below : e.lookahead < t
  pub numbered : number_at bytes looked.at ≡ Ok (e.article, next)

faulty-not-found : (r : Refusal) (e : Entry) (next : Cursor) → ◌≡◌ {A = Result (Entry × Cursor) Refusal} (Err r) (Ok (e, next)) → ⊥
faulty-not-found r e next f = let z : ◌≡◌ {A = ℕ} 0 1 = cc in omega arith

module _ (t : ℕ) (bytes : List ℕ) (at : ℕ) where
  pub entry-parts : (e : Entry) (next : Cursor) → entry_at t bytes at ≡ Ok (e, next) → Parts t bytes at e next
  unfolding entry_at
  entry-parts e next f = by_length (admitted length_fault at (number_at bytes at)) refl
    where
      by-article : (len : ℕ) (c : Cursor) → admitted length_fault at (number_at bytes at) ≡ Ok (len, c) → (vs : List ℕ) (last : ℕ)
          → symbol_row t bytes c.at len ≡ read vs last → (z : ℕ) (d : Cursor) → admitted (lookahead_fault t) last (number_at bytes last) ≡ Ok (z, d)
          → (n : Number) → number_at bytes d.at ≡ n → entry_ended c.at len z n ≡ Ok (e, next) → Parts t bytes at e next
      by-article len c g vs last h z d i (Err r) a j = absurd (faulty-not-found r e next j)
      by-article len c g vs last h z d i (Ok (article, b)) a j =
          let (m, o) = admitted-found length_fault at (number_at bytes at) len c g in
          let (p, q) = admitted-found (lookahead_fault t) last (number_at bytes last) z d i in
          let k : ◌≡◌ {A = Entry} (record { start = c.at; len = len; lookahead = z; article = article }) e = (ok-is j).0 in
          let l : b ≡ next = (ok-is j).1 in
          let short = inside 0 1001 Cause.Length len o in
          let below = inside 0 t Cause.Lookahead z q in
          let parts : Parts t bytes at (record { start = c.at; len = len; lookahead = z; article = article }) b =
          record { begins = m; short = omega arith; symbols = vs; last = last; spelled = h; looked = d; looks = p; below = below.1; numbered = a } in
          rw (k, l) at parts

      by_end : (len : ℕ) (c : Cursor) → admitted length_fault at (number_at bytes at) ≡ Ok (len, c) → (vs : List ℕ) (last : ℕ)
          → symbol_row t bytes c.at len ≡ read vs last → (n : Number) → admitted (lookahead_fault t) last (number_at bytes last) ≡ n
          → after_lookahead bytes c.at len n ≡ Ok (e, next) → Parts t bytes at e next
      by_end len c g vs last h (Err r) i j = absurd (faulty-not-found r e next j)
      by_end len c g vs last h (Ok (z, d)) i j = by-article len c g vs last h z d i (number_at bytes d.at) refl j

      by-symbols : (len : ℕ) (c : Cursor) → admitted length_fault at (number_at bytes at) ≡ Ok (len, c) → (w : Row) → symbol_row t bytes c.at len ≡ w
          → after_symbols t bytes c.at len w ≡ Ok (e, next) → Parts t bytes at e next
      by-symbols len c g (refused r) h i = absurd (faulty-not-found r e next i)
      by-symbols len c g (read vs last) h i = by_end len c g vs last h (admitted (lookahead_fault t) last (number_at bytes last)) refl i

      by_length : (n : Number) → admitted length_fault at (number_at bytes at) ≡ n → Parts t bytes at e next
      by_length (Err r) g = absurd (faulty-not-found r e next (rw g at f))
      by_length (Ok (len, c)) g = by-symbols len c g (symbol_row t bytes c.at len) refl (rw g at f)

  -- it is the same over more terminals
  pub entry-wider : (u : ℕ) → t ≤ u → (e : Entry) (next : Cursor) → entry_at t bytes at ≡ Ok (e, next) → entry_at u bytes at ≡ Ok (e, next)
  unfolding entry_at
  entry-wider u h e next f =
      let p = entry-parts e next f in
      let wide : (seen : List ℕ) (v : ℕ) → symbol_fault t seen v ≡ None → symbol_fault u seen v ≡ None = λ seen v z. (let b = inside 1 t Cause.Symbol v z in outside-none 1 u Cause.Symbol v b.0 (omega arith)) in
      let row_of : symbol_row u bytes e.start e.len ≡ read p.symbols p.last =
      row-refault (number_at bytes) (symbol_fault t) (symbol_fault u) wide e.len [] e.start p.symbols p.last p.spelled in
      let low : length_fault e.len ≡ None = outside-none 0 1001 Cause.Length e.len (omega arith) (omega (arith, p.short)) in
      let look : lookahead_fault u e.lookahead ≡ None = outside-none 0 u Cause.Lookahead e.lookahead (omega arith) (omega (arith, p.below)) in
      rw (p.begins, low, row_of, p.looks, look, p.numbered)

-- ---- a number that was read: how many bytes it took, and how small and how large it can be then
third-read : (at a b : ℕ) (s : List ℕ) (v next : ℕ) → third at a b s ≡ value v next
    → (128 ≤ v) × (v < 2097152) × (next ≤ at + 2 + length s)
unfolding third
third-read at a b [] v next e = absurd (refused-not-value _ v next e)
third-read at a b (c ∷ s) v next e = go (ℕ_discrete c 0) (dec_lt c 128)
  where
    go : Dec (c ≡ 0) → Dec (c < 128) → (128 ≤ v) × (v < 2097152) × (next ≤ at + 2 + length (c ∷ s))
    go (yes z) d = absurd (refused-not-value _ v next (simp tests at e))
    go (no z) (no d) = absurd (refused-not-value _ v next (simp tests at e))
    go (no z) (yes d) = let (i, j) = value-is (a % 128 + 128 * (b % 128) + 16384 * c) (at + 3) v next (simp tests at e) in omega arith

second-read : (at a : ℕ) (s : List ℕ) (v next : ℕ) → second at a s ≡ value v next
    → (128 ≤ v) × (v < 2097152) × (next ≤ at + 1 + length s)
unfolding second
second-read at a [] v next e = absurd (refused-not-value _ v next e)
second-read at a (b ∷ s) v next e = go (ℕ_discrete b 0) (dec_lt b 128)
  where
    go : Dec (b ≡ 0) → Dec (b < 128) → (128 ≤ v) × (v < 2097152) × (next ≤ at + 1 + length (b ∷ s))
    go (yes z) d = absurd (refused-not-value _ v next (simp tests at e))
    go (no z) (no d) = let h = third-read at a b s v next (simp tests at e) in omega arith
    go (no z) (yes d) = let (i, j) = value-is (a % 128 + 128 * b) (at + 2) v next (simp tests at e) in omega arith

pub one_byte : (bytes : List ℕ) (at v : ℕ) (next : Cursor) → v < 128 → number_at bytes at ≡ Ok (v, next)
    → (at < length bytes) × (v ≡ get_or bytes at 0) × (next.at ≡ at + 1)
unfolding number_at first
one_byte bytes at v next h e = go (dec_lt at (length bytes)) (dec_lt (get_or bytes at 0) 128)
  where
    go : Dec (at < length bytes) → Dec (get_or bytes at 0 < 128) → (at < length bytes) × (v ≡ get_or bytes at 0) × (next.at ≡ at + 1)
    go (no l) d =
        let past : length bytes ≤ at = omega arith in
        absurd (refused-not-value _ v next.at (rw (drop_of_length-le bytes past) at e))
    go (yes l) (no d) = let (big, small, within) = second-read at (get_or bytes at 0) (drop (at + 1) bytes) v next.at (rw (byte_at bytes at l, le-ltb (get_or bytes at 0) 128 (omega arith)) at e) in absurd (omega arith)
    go (yes l) (yes d) =
        let (i, j) = value-is (get_or bytes at 0) (at + 1) v next.at (rw (byte_at bytes at l, lt-ltb (get_or bytes at 0) 128 d) at e) in
        (l, sym i, sym j)

-- ---- a number that was read ends within the bytes
first-within : (at : ℕ) (s : List ℕ) (v next : ℕ) → first at s ≡ value v next
    → (v < 2097152) × (next ≤ at + length s) × (1 ≤ length s)
unfolding first
first-within at [] v next e = absurd (refused-not-value _ v next e)
first-within at (a ∷ s) v next e = go (dec_lt a 128)
  where
    go : Dec (a < 128) → (v < 2097152) × (next ≤ at + length (a ∷ s)) × (1 ≤ length (a ∷ s))
    go (no d) = let h = second-read at a s v next (simp tests at e) in (omega arith, omega arith, omega arith)
    go (yes d) =
        let (i, j) = value-is a (at + 1) v next (simp tests at e) in
        (omega arith, omega arith, omega arith)

pub number-within : (bytes : List ℕ) (at v next : ℕ) → number_at bytes at ≡ value v next → next ≤ length bytes
unfolding number_at
number-within bytes at v next e = let (s, h, i) = first-within at (drop at bytes) v next e in omega (arith, length-drop at bytes)

-- it is as small as one that is written
pub number_small : (bytes : List ℕ) (at v next : ℕ) → number_at bytes at ≡ value v next → v < 2097152
unfolding number_at
number_small bytes at v next e = (first-within at (drop at bytes) v next e).0

pub symbols-spelled : (t : ℕ) (bytes : List ℕ) (start len : ℕ) (w : List ℕ) (next : ℕ) → t ≤ 128 → symbol_row t bytes start len ≡ read w next → start ≤ length bytes
    → Symbols t bytes start len
symbols-spelled t bytes start len w next few e h =
    let one : (seen : List ℕ) (i v : ℕ) (c : Cursor) → number_at bytes i ≡ Ok (v, c) → symbol_fault t seen v ≡ None
    → (i < length bytes) × (v ≡ get_or bytes i 0) × (c.at ≡ i + 1) = λ seen i v c g z. (let (a, b) = inside 1 t Cause.Symbol v z in one_byte bytes i v c (omega arith) g) in
    let q = row-segment (number_at bytes) (symbol_fault t) bytes one len [] start w next e h in
    let row : symbol_row t bytes start len ≡ read (part bytes start len) (start + len) = rw (q.part, q.after) at e in
    record {
      row = row;
      within = q.within;
      symbol = λ i l. inside 1 t Cause.Symbol _ (row-clean (number_at bytes) (symbol_fault t) len [] start (part bytes start len) (start + len) row i l);
    }

pub entry-spelled : (t : ℕ) (bytes : List ℕ) (at : ℕ) (e : Entry) (next : Cursor) → t ≤ 128 → entry_at t bytes at ≡ Ok (e, next) → Spelled t bytes e
entry-spelled t bytes at e next few f =
    let p = entry-parts t bytes at e next f in
    record {
      symbols = symbols-spelled t bytes e.start e.len p.symbols p.last few p.spelled (number-within bytes at e.len e.start p.begins);
      short = p.short;
      below = p.below;
    }

-- ---- symbols that are written are read
pub symbols-read : (t : ℕ) (bytes w seen : List ℕ) (at : ℕ) (rest : List ℕ) → t ≤ 128 → ((i : ℕ) → i < length w → (1 ≤ get_or w i 0) × (get_or w i 0 < t))
    → drop at bytes ≡ bytes_of w ++ rest → row (number_at bytes) (symbol_fault t) (length w) seen at ≡ read w (at + length (bytes_of w))
unfolding row
symbols-read t bytes [] seen at rest few h e = rw add-zero refl
symbols-read t bytes (a ∷ w) seen at rest few h e =
    let e' : drop at bytes ≡ written a ++ (bytes_of w ++ rest) = e ∙ append_assoc (written a) (bytes_of w) rest in
    let (low, high) = h 0 (omega arith) in
    let n = number-written bytes at a (bytes_of w ++ rest) (omega arith) e' in
    let clean : symbol_fault t seen a ≡ None = outside-none 1 t Cause.Symbol a low high in
    let on = symbols-read t bytes w (seen ++ (a ∷ [])) (at + length (written a)) rest few (λ i l. h (suc i) (omega arith)) (past bytes at (written a) (bytes_of w ++ rest) e') in
    rw (n, clean, on, length-append, ← add_assoc)
