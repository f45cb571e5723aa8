-- Laws of the call that checks a certificate: at most one answer is right, and the two theorems for it. Assumes nothing.
use Rattle.number.specs.declared.cause.Refusal.{Refusal}
use Rattle.std.specs.Prelude.{Result, Ok, Err, List, ◌≡◌, ℕ, ◌+◌, ◌*◌, ◌/◌, ◌%◌, ◌≤◌, ◌<◌, length, get_or}
use Rattle.std.proofs.Math.Path.{refl}
use Rattle.std.proofs.Common.{sym, ◌∙◌, ap, arith, ext_get_or}
use borrow.Author.Tests.{le-ltb, ltb-false}
use Rattle.book.specs.Book.{of_cells, checked}
use Rattle.book.specs.Call.{admits}
use Rattle.book.specs.CallLaws.{call-admitted}
use Rattle.book.specs.IndexLaws.{index-split}
use Rattle.book.specs.Tables.{tables_of}
use Rattle.book.specs.TablesLaws.{Accepted, IsBook, InRange}
use Rattle.book.proofs.TablesLaws.{accepted-book, in-range}
use Rattle.book.specs.declared.Sizes.{Sizes}
use Rattle.forms.proofs.FormsLaws.{plain-holds, plain-tables}
use Rattle.machine.specs.Machine.{Reaches}
use Rattle.walk.specs.Scale.{plain}
use Rattle.walk.specs.Cost.{Exact}
use Rattle.walk.proofs.CostLaws.{exact_one}
use Rattle.walk.specs.Map.{IsMap}
use Rattle.walk.specs.Road.{Crosses}
use Rattle.certificate.specs.Certificate.{crossing_at, crossing_count, pair_count, certificate_in, Judged, accepts, TrueMap}
use Rattle.certificate.specs.CertificateLaws.{judged-one}
use Rattle.certificate.proofs.CertificateLaws.{sound, accepted-true, complete}
use Rattle.certificate.specs.Sentences.{spelled, sentences_in}
use Rattle.certificate.specs.SentencesLaws.{refused-not-spelled}
use Rattle.certificate.specs.Checks.{certificate_refusals, spelled_in, sentences_of, Checks, refuses, judges, Mapped, Certified}
use Rattle.certificate.specs.ChecksLaws.{Admission}
use Rattle.certificate.specs.declared.Condition.{Condition}
use Rattle.certificate.specs.declared.Verdict.{Verdict}
use Rattle.certificate.specs.declared.Verdict.TheVariants.{Accepted as IsAccepted}

module _ (cells crossings pairs bytes : List ℕ) where
  -- a book that is not refused, and rows of the right sizes
  pub rows-admitted : (d : Sizes) → Accepted d cells → length crossings ≡ crossing_count (tables_of cells) → length pairs ≡ pair_count (tables_of cells)
      → sentences_of cells crossings pairs bytes ≡ sentences_in d.t bytes pairs
  unfolding sentences_of certificate_refusals
  rows-admitted d e p q =
      rw (e, le-ltb (length crossings) (crossing_count (tables_of cells)) (omega arith), le-ltb (crossing_count (tables_of cells)) (length crossings) (omega arith), le-ltb (length pairs) (pair_count (tables_of cells)) (omega arith), le-ltb (pair_count (tables_of cells)) (length pairs) (omega arith))

  pub spelled-admitted : (ws : List (List ℕ)) (end : ℕ) → sentences_of cells crossings pairs bytes ≡ spelled ws end → Admission cells crossings pairs bytes ws end
  unfolding sentences_of certificate_refusals
  spelled-admitted ws end e = go (admits (checked (of_cells cells)) (λ d. certificate_refusals (tables_of cells) (length crossings) (length pairs))) refl e
    where
      go : (x : Result Sizes Refusal) → admits (checked (of_cells cells)) (λ d. certificate_refusals (tables_of cells) (length crossings) (length pairs)) ≡ x
          → spelled_in x pairs bytes ≡ spelled ws end → Admission cells crossings pairs bytes ws end
      go (Err r) i f = absurd (refused-not-spelled r ws end f)
      go (Ok d) i f =
          let (book, (a, (b, (c, (g, u))))) = call-admitted (checked (of_cells cells)) (λ d. certificate_refusals (tables_of cells) (length crossings) (length pairs)) d i in
          record {
            d = d;
            book = book;
            crossing-cells = omega (arith, ltb-false (length crossings) (crossing_count (tables_of cells)) a, ltb-false (crossing_count (tables_of cells)) (length crossings) b);
            pair-cells = omega (arith, ltb-false (length pairs) (pair_count (tables_of cells)) c, ltb-false (pair_count (tables_of cells)) (length pairs) g);
            written = f;
          }

-- what a book that is not refused holds
pub accepted-range : (d : Sizes) (cells : List ℕ) → Accepted d cells → InRange (tables_of cells)
accepted-range d cells e = rw (plain-tables d cells e) at (in-range (plain-holds d cells e))

-- ---- the answer
module _ {cells crossings pairs bytes : List ℕ} where
  -- at most one answer is right
  pub checks-one : {v v' : Result Verdict Refusal} → Checks cells crossings pairs bytes v → Checks cells crossings pairs bytes v' → v ≡ v'
  checks-one (refuses r e) (refuses r' e') = cc
  checks-one (refuses r e) (judges ws end v e' j) = absurd (refused-not-spelled r ws end (sym e ∙ e'))
  checks-one (judges ws end v e j) (refuses r e') = absurd (refused-not-spelled r ws end (sym e' ∙ e))
  checks-one (judges ws end v e j) (judges ws' end' v' e' j') = let i : ws ≡ ws' = cc in ap Ok (judged-one j (rw (← i) at j'))

-- an accepted judgement shows that no condition fails
accepted-none : {fails : Condition → ℕ → Type 0} → Judged fails IsAccepted → (k : Condition) (i : ℕ) → ¬ fails k i
accepted-none (accepts f) = f

-- the map that a certificate of a book claims, by the book's sizes
map-exact : {d : Sizes} {cells : List ℕ} (crossings pairs : List ℕ) (ws : List (List ℕ)) → IsBook d cells
    → TrueMap (tables_of cells) (certificate_in (tables_of cells) crossings pairs ws).pair → (s z : ℕ) → s < d.s → z < d.t
    → Exact plain (λ w. Reaches (tables_of cells) w z s) (get_or pairs (s * d.t + z) 0)
unfolding tables_of certificate_in
map-exact crossings pairs ws h m s z ls lz = rw h.sizes (m s z (rw h.sizes at ls) (rw h.sizes at lz))

pair-cells-of : {d : Sizes} {cells : List ℕ} → IsBook d cells → pair_count (tables_of cells) ≡ d.s * d.t
unfolding tables_of
pair-cells-of h = rw h.sizes

-- *sound*: what is accepted is the true map, whoever made the certificate
pub accepted-mapped : {cells crossings pairs bytes : List ℕ} → Checks cells crossings pairs bytes (Ok IsAccepted) → Mapped cells pairs
accepted-mapped {cells} {crossings} {pairs} {bytes} (judges ws end v e j) =
    let a = spelled-admitted cells crossings pairs bytes ws end e in
    let h = accepted-book cells a.d a.book in
    record {
      d = a.d;
      book = a.book;
      map = record { size = a.pair-cells ∙ pair-cells-of h; exact = map-exact crossings pairs ws h (sound _ (accepted-range a.d cells a.book) (accepted-none j)) };
    }

-- *complete*: a true certificate without long pairs, whose sentences reach within the limits, is accepted ..
pub certified-accepted : {cells crossings pairs bytes : List ℕ} → Certified cells crossings pairs bytes → Checks cells crossings pairs bytes (Ok IsAccepted)
certified-accepted {cells} {crossings} {pairs} {bytes} t =
    judges t.sentences t.end IsAccepted
    (rows-admitted cells crossings pairs bytes t.d t.book t.crossing-cells t.pair-cells ∙ t.written)
    (complete (accepted-range t.d cells t.book) t.claims)

-- .. which is every accepted one that claims no crossing too low ..
pub accepted-certified : {cells crossings pairs bytes : List ℕ} → Checks cells crossings pairs bytes (Ok IsAccepted)
    → ((q X a z : ℕ) → q < (tables_of cells).states → X < (tables_of cells).nonterminals → a < (tables_of cells).terminals → z < (tables_of cells).terminals
    → Exact plain (Crosses (tables_of cells) q X a z) (get_or crossings (crossing_at (tables_of cells) q X a z) 0)) → Certified cells crossings pairs bytes
unfolding certificate_in
accepted-certified {cells} {crossings} {pairs} {bytes} (judges ws end v e j) f =
    let a = spelled-admitted cells crossings pairs bytes ws end e in
    record {
      d = a.d;
      book = a.book;
      crossing-cells = a.crossing-cells;
      pair-cells = a.pair-cells;
      sentences = ws;
      end = end;
      written = a.written;
      claims = accepted-true _ (accepted-range a.d cells a.book) (accepted-none j) f;
    }

-- .. and nothing else is answered for it
pub certified-only : {cells crossings pairs bytes : List ℕ} {v : Result Verdict Refusal} → Certified cells crossings pairs bytes → Checks cells crossings pairs bytes v → v ≡ Ok IsAccepted
certified-only t c = checks-one c (certified-accepted t)

-- ---- there is one true map of a book: what two accepted certificates claim of the pairs is the same, cell by cell, and so is the finder's map
map-one : {cells : List ℕ} {d : Sizes} {xs ys : List ℕ} → 1 ≤ d.t → IsMap cells d xs → IsMap cells d ys → xs ≡ ys
map-one {d} {xs} {ys} some m n = ext_get_or 0 xs ys (m.size ∙ sym n.size) cell
  where
    cell : (i : ℕ) → i < length xs → get_or xs i 0 ≡ get_or ys i 0
    cell i h =
        let g = index-split d.s d.t i (rw m.size at h) in
        rw g.same at (exact_one (m.exact (i / d.t) (i % d.t) g.high g.low) (n.exact (i / d.t) (i % d.t) g.high g.low))

pub mapped-one : {cells xs ys : List ℕ} → Mapped cells xs → Mapped cells ys → xs ≡ ys
mapped-one {cells} m n =
    let e : n.d ≡ m.d = cc in
    map-one (accepted-book cells m.d m.book).small.some-terminal m.map (rw e at n.map)
