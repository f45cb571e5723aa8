-- The bytes of an entry where it stands in a list, and laws of them. Assumes nothing.
use Rattle.number.specs.declared.cause.Refusal.{Refusal}
use Rattle.std.specs.Prelude.{Result, Ok, Err, cond, List, [], ◌≡◌, refl, ℕ, ◌-◌, ◌≤◌, ◌<◌, eqb, length, take, drop}
use Rattle.std.proofs.Common.{◌∙◌, ap, arith, ne_eqb, length-append, length-take, length-drop, take_at}
use Rattle.number.specs.NumberLaws.{Bytes, number-onward}
use Rattle.number.specs.declared.Cursor.{Cursor}
use Rattle.book.specs.Book.{bytes_of}
use Rattle.lists.specs.Entry.{entry_at}
use Rattle.lists.proofs.EntryLaws.{number-within, entry-wider}
use Rattle.lists.specs.declared.Entry.{Entry}
use Rattle.items.specs.EntryLaws.{entry-ended, entry-bytes}
use Rattle.items.specs.Items.{item_of, item_numbers}

-- from its place up to where it ends; nothing for the place 0, where a list has its count
abbrev pub span_of : List ℕ → ℕ → Result (Entry × Cursor) Refusal → List ℕ
span_of bytes place (Err r) = []
span_of bytes place (Ok (e, next)) = take (next.at - place) (drop place bytes)

unfoldable pub span_at : List ℕ → ℕ → List ℕ
span_at bytes place = cond (eqb place 0) [] (span_of bytes place (entry_at 32 bytes place))

pub span_none : (bytes : List ℕ) → span_at bytes 0 ≡ []
unfolding span_at
span_none bytes = refl

-- an entry ends after its place, and within the bytes
pub entry-within : {t : ℕ} (bytes : List ℕ) (place : ℕ) {e : Entry} {next : Cursor} → t ≤ 32 → entry_at t bytes place ≡ Ok (e, next)
    → (place < next.at) × (next.at ≤ length bytes)
entry-within bytes place {e} {next} few f =
    let d = entry-ended bytes place few f in
    (omega (arith, d.begins, number-onward bytes _ e.article next d.numbered), number-within bytes _ e.article next.at d.numbered)

pub span-found : {t : ℕ} (bytes : List ℕ) (place : ℕ) {e : Entry} {next : Cursor} → t ≤ 32 → 1 ≤ place → entry_at t bytes place ≡ Ok (e, next)
    → span_at bytes place ≡ take (next.at - place) (drop place bytes)
unfolding span_at
span-found {t} bytes place {e} {next} few some f = rw (ne_eqb place 0 (omega arith), entry-wider t bytes place 32 few e next f)

pub span-length : {t : ℕ} (bytes : List ℕ) (place : ℕ) {e : Entry} {next : Cursor} → t ≤ 32 → 1 ≤ place → entry_at t bytes place ≡ Ok (e, next)
    → length (span_at bytes place) ≡ next.at - place
span-length bytes place few some f = rw (span-found bytes place few some f, length-take, length-drop) (omega (arith, entry-within bytes place few f))

-- it is the entry as it is written
pub span-item : {t : ℕ} (bytes : List ℕ) (place : ℕ) {e : Entry} {next : Cursor} → Bytes bytes → t ≤ 32 → 1 ≤ place → entry_at t bytes place ≡ Ok (e, next)
    → span_at bytes place ≡ bytes_of (item_numbers (item_of bytes e))
span-item bytes place {e} {next} b few some f =
    let out : List ℕ = bytes_of (item_numbers (item_of bytes e)) in
    let whole = entry-bytes bytes place b few f in
    let count : length out ≡ next.at - place =
    omega (arith, ap length whole, length-append out (drop next.at bytes), length-drop place bytes, length-drop next.at bytes, entry-within bytes place few f) in
    span-found bytes place few some f ∙ rw whole (take_at out (drop next.at bytes) (next.at - place) count)
