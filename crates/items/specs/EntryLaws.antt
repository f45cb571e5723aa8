-- Laws of one entry: what holds of one that was read, which bytes it has, and that these are read back. Assumes nothing.
use Rattle.std.specs.Prelude.{None, Ok, List, [], ◌∷◌, ◌++◌, ◌≡◌, refl, ℕ, suc, ◌+◌, ◌≤◌, ◌<◌, length, get_or, drop}
use Rattle.std.proofs.Common.{append_assoc, append-nil, sym, ◌∙◌, ap, arith, length-append, take-append-drop, drop-drop, get_or-drop}
use Rattle.std.proofs.Math.Seq.{take-append_seam}
use Rattle.number.specs.Number.{number_at, written, value}
use Rattle.number.specs.NumberLaws.{Bytes, byte_at, written_one, first-stands, number-onward}
use Rattle.number.specs.declared.Cursor.{Cursor}
use Rattle.number.specs.declared.cause.Cause.{Cause}
use Rattle.book.specs.Book.{read, row, bytes_of}
use Rattle.book.specs.BytesLaws.{bytes-append}
use Rattle.book.specs.RoundTripLaws.{past, number-written}
use Rattle.lists.specs.Entry.{length_fault, symbol_row, lookahead_fault, entry_at, part}
use Rattle.lists.proofs.EntryLaws.{part_length, outside-none, entry-parts, entry-spelled, one_byte, number_small, symbols-read}
use Rattle.lists.specs.declared.Entry.{Entry}
use Rattle.items.specs.Items.{Item, item_of, item_numbers}
use Rattle.items.specs.Valid.{ValidItem}

-- ---- where an entry that was read ends
pub record Ended (bytes : List ℕ) (place : ℕ) (e : Entry) (next : Cursor) : Type 0 where
  pub begins : place < e.start
  pub last : e.start + e.len < length bytes
  pub looks : e.lookahead ≡ get_or bytes (e.start + e.len) 0
  pub numbered : number_at bytes (e.start + e.len + 1) ≡ Ok (e.article, next)

module _ {t : ℕ} (bytes : List ℕ) (place : ℕ) {e : Entry} {next : Cursor} (few : t ≤ 32) (f : entry_at t bytes place ≡ Ok (e, next)) where
  pub entry-ended : Ended bytes place e next
  entry-ended =
      let p = entry-parts t bytes place e next f in
      let s = entry-spelled t bytes place e next (omega arith) f in
      let same : read p.symbols p.last ≡ read (part bytes e.start e.len) (e.start + e.len) = sym p.spelled ∙ s.symbols.row in
      let l : p.last ≡ e.start + e.len = cc in
      let (a, b, c) = one_byte bytes (e.start + e.len) e.lookahead p.looked (omega (arith, p.below)) (rw l at p.looks) in
      record { begins = number-onward bytes place e.len (record { at = e.start }) p.begins; last = a; looks = b; numbered = rw c at p.numbered }

  -- it is one that a list can have
  pub entry-valid : ValidItem t (item_of bytes e)
  entry-valid =
      let p = entry-parts t bytes place e next f in
      let s = entry-spelled t bytes place e next (omega arith) f in
      let count = part_length bytes e.start e.len s.symbols.within in
      record {
        short = rw count s.short;
        symbol = λ i l. s.symbols.symbol i (rw count at l);
        below = s.below;
        article = omega (arith, number_small bytes p.looked.at e.article next.at p.numbered);
      }

-- ---- its bytes: symbols and lookahead take one each, its length and its article number one to three
bytes-narrow : (w : List ℕ) → ((i : ℕ) → i < length w → get_or w i 0 < 128) → bytes_of w ≡ w
bytes-narrow [] h = refl
bytes-narrow (a ∷ w) h = rw (written_one a (h 0 (omega arith)), bytes-narrow w (λ i l. h (suc i) (omega arith)))

module _ {t : ℕ} {x : Item} (few : t ≤ 32) (v : ValidItem t x) where
  symbols-bytes : bytes_of x.symbols ≡ x.symbols
  symbols-bytes = bytes-narrow x.symbols (λ i l. omega (arith, (v.symbol i l).1))

  pub item-bytes : bytes_of (item_numbers x) ≡ written (length x.symbols) ++ (x.symbols ++ (x.lookahead ∷ written x.article))
  item-bytes = rw (bytes-append, symbols-bytes, written_one x.lookahead (omega (arith, v.below)), append_assoc, append-nil)

-- a number is written where it was read
number-bytes : (bytes : List ℕ) (at v : ℕ) (next : Cursor) → Bytes bytes → number_at bytes at ≡ Ok (v, next) → drop at bytes ≡ written v ++ drop next.at bytes
unfolding number_at
number-bytes bytes at v next b e =
    let s = first-stands at (drop at bytes) v next.at (λ i. rw get_or-drop (b (at + i))) e in
    s.whole ∙ ap (λ (l : List ℕ). written v ++ l) (sym (rw (← s.after) at (past bytes at (written v) s.rest s.whole)))

-- those that it was read from
pub entry-bytes : {t : ℕ} (bytes : List ℕ) (place : ℕ) {e : Entry} {next : Cursor} → Bytes bytes → t ≤ 32 → entry_at t bytes place ≡ Ok (e, next)
    → drop place bytes ≡ bytes_of (item_numbers (item_of bytes e)) ++ drop next.at bytes
entry-bytes {t} bytes place {e} {next} b few f =
    let p = entry-parts t bytes place e next f in
    let d = entry-ended bytes place few f in
    let count = part_length bytes e.start e.len (omega (arith, d.last)) in
    let article = number-bytes bytes (e.start + e.len + 1) e.article next b d.numbered in
    let symbols : drop e.start bytes ≡ part bytes e.start e.len ++ (e.lookahead ∷ (written e.article ++ drop next.at bytes)) =
    sym (take-append-drop e.len (drop e.start bytes)) ∙ rw (drop-drop, byte_at bytes (e.start + e.len) d.last, ← d.looks, article) in
    number-bytes bytes place e.len (record { at = e.start }) b p.begins
    ∙ ap (λ (l : List ℕ). written e.len ++ l) symbols
    ∙ rw (item-bytes few (entry-valid bytes place few f), count, append_assoc, append_assoc)

-- ---- what is written is read
-- an entry, which says what was written
pub record ItemRead (t : ℕ) (bytes : List ℕ) (at : ℕ) (x : Item) : Type 0 where
  pub entry : Entry
  pub found : entry_at t bytes at ≡ Ok (entry, (record { at = at + length (bytes_of (item_numbers x)) }))
  pub says : item_of bytes entry ≡ x

pub item-read : {t : ℕ} {x : Item} (bytes : List ℕ) (at : ℕ) (rest : List ℕ) → t ≤ 32 → ValidItem t x → drop at bytes ≡ bytes_of (item_numbers x) ++ rest
    → ItemRead t bytes at x
unfolding entry_at
item-read {t} {x} bytes at rest few v e =
    let len = length x.symbols in
    let start = at + length (written len) in
    let more : List ℕ = written x.article ++ rest in
    let e₁ : drop at bytes ≡ written len ++ (x.symbols ++ (x.lookahead ∷ more)) = e ∙ rw (item-bytes few v, append_assoc, append_assoc) in
    let e₂ = past bytes at (written len) (x.symbols ++ (x.lookahead ∷ more)) e₁ in
    let e₃ = past bytes start x.symbols (x.lookahead ∷ more) e₂ in
    let e₄ = past bytes (start + len) (x.lookahead ∷ []) more e₃ in
    let n = number-written bytes at len (x.symbols ++ (x.lookahead ∷ more)) (omega (arith, v.short)) e₁ in
    let symbols : symbol_row t bytes start len ≡ read x.symbols (start + len) =
    rw (symbols-bytes few v) at (symbols-read t bytes x.symbols [] start (x.lookahead ∷ more) (omega arith) v.symbol (rw (symbols-bytes few v) e₂)) in
    let one = written_one x.lookahead (omega (arith, v.below)) in
    let look : number_at bytes (start + len) ≡ value x.lookahead (start + len + 1) =
    rw one at (number-written bytes (start + len) x.lookahead more (omega (arith, v.below)) (rw one e₃)) in
    let article = number-written bytes (start + len + 1) x.article rest (omega (arith, v.article)) e₄ in
    let low : length_fault len ≡ None = outside-none 0 1001 Cause.Length len (omega arith) (omega (arith, v.short)) in
    let below : lookahead_fault t x.lookahead ≡ None = outside-none 0 t Cause.Lookahead x.lookahead (omega arith) v.below in
    let end : at + length (bytes_of (item_numbers x)) ≡ start + len + 1 + length (written x.article) =
    rw (item-bytes few v, length-append, length-append) (omega arith) in
    record {
      entry = record { start = start; len = len; lookahead = x.lookahead; article = x.article };
      found = rw (end, n, low, symbols, look, below, article);
      says = rw (e₂, take-append_seam);
    }
