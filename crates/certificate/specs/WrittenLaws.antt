-- What is written of a certificate's sentences is read back. Assumes nothing.
use Rattle.std.specs.Prelude.{None, List, [], ◌∷◌, ◌++◌, ◌≡◌, ℕ, zero, suc, ◌+◌, ◌≤◌, ◌<◌, get_or}
use Rattle.std.proofs.Common.{append_assoc, ◌∙◌, add_assoc, arith}
use Rattle.std.proofs.Math.Path.{refl}
use Rattle.std.proofs.Math.Nat.{add-zero, zero-add}
use borrow.Author.Tests.{le-ltb, le-leb, lt-leb}
use Rattle.std.proofs.Math.ListN.{length, drop, length-append}
use Rattle.number.specs.Number.{written}
use Rattle.number.specs.declared.cause.Cause.{Cause}
use Rattle.book.specs.Book.{read, bytes_of}
use Rattle.book.specs.RoundTripLaws.{past, number-written}
use Rattle.book.specs.Tables.{Tables}
use Rattle.machine.specs.Machine.{Terminals, none, more}
use Rattle.lists.specs.Entry.{length_fault}
use Rattle.lists.proofs.EntryLaws.{outside-none, symbols-read}
use Rattle.walk.specs.Scale.{plain}
use Rattle.certificate.specs.Sentences.{sentence_at, spelled, sentences_at, sentences_in}
use Rattle.certificate.specs.Written.{written_sentences, Writable, none as no_pairs, some, skip}

terminal-at : {B : Tables} {w : List ℕ} → Terminals B w → (i : ℕ) → i < length w → (1 ≤ get_or w i 0) × (get_or w i 0 < B.terminals)
terminal-at none i h = absurd (omega arith)
terminal-at (more h l t) zero g = (h, l)
terminal-at (more h l t) (suc i) g = terminal-at t i (omega arith)

sentence-written : {B : Tables} {w : List ℕ} (bytes : List ℕ) (at : ℕ) (rest : List ℕ) → B.terminals ≤ 128 → length w ≤ plain.limit → Terminals B w
    → drop at bytes ≡ bytes_of (length w ∷ w) ++ rest → sentence_at B.terminals bytes at ≡ read w (at + length (bytes_of (length w ∷ w)))
unfolding sentence_at
sentence-written {B} {w} bytes at rest few h t e =
    let e' : drop at bytes ≡ written (length w) ++ (bytes_of w ++ rest) = e ∙ append_assoc (written (length w)) (bytes_of w) rest in
    let n = number-written bytes at (length w) (bytes_of w ++ rest) (omega arith) e' in
    let clean : length_fault (length w) ≡ None = outside-none 0 1001 Cause.Length (length w) (omega arith) (omega arith) in
    let on = symbols-read B.terminals bytes w [] (at + length (written (length w))) rest few (terminal-at t) (past bytes at (written (length w)) (bytes_of w ++ rest) e') in
    rw (n, clean, on, length-append, ← add_assoc)

module _ {B : Tables} (few : B.terminals ≤ 128) where
  sentences-at : {claims : List ℕ} {ws : List (List ℕ)} (bytes : List ℕ) (at : ℕ) → Writable B claims ws → drop at bytes ≡ written_sentences claims ws
      → sentences_at B.terminals bytes claims at ≡ spelled ws (at + length (written_sentences claims ws))
  unfolding sentences_at written_sentences
  sentences-at bytes at no_pairs e = rw add-zero refl
  sentences-at bytes at (some {claim} {claims} {w} {ws} h l t g) e =
      let rest = written_sentences claims ws in
      let e' : drop at bytes ≡ bytes_of (length w ∷ w) ++ rest = rw (le-leb claim 1000 h) at e in
      let r = sentence-written bytes at rest few l t e' in
      let on = sentences-at bytes (at + length (bytes_of (length w ∷ w))) g (past bytes at (bytes_of (length w ∷ w)) rest e') in
      rw (le-leb claim 1000 h, r, on, length-append (bytes_of (length w ∷ w)) rest, ← add_assoc)
  sentences-at bytes at (skip {claim} {claims} {ws} h g) e =
      let e' : drop at bytes ≡ written_sentences claims ws = rw (lt-leb claim 1000 h) at e in
      let on = sentences-at bytes at g e' in
      rw (lt-leb claim 1000 h, on)

  -- reading what was written gives the sentences
  pub sentences-written : {claims : List ℕ} {ws : List (List ℕ)} → Writable B claims ws
      → sentences_in B.terminals (written_sentences claims ws) claims ≡ spelled ws (length (written_sentences claims ws))
  unfolding sentences_in
  sentences-written {claims} {ws} g =
      let bytes = written_sentences claims ws in
      let r = sentences-at bytes 0 g refl in
      rw (r, zero-add, le-ltb (length bytes) (length bytes) (omega arith))
