-- Laws of the sentences of a certificate: how they are read one by one, and what holds of those that were read. Assumes nothing.
use Rattle.number.specs.declared.cause.Cause.{Cause}
use Rattle.std.specs.Prelude.{⊤, Result, Ok, Err, cond, ◌≡◌, ℕ, suc, ◌+◌, ◌≤◌, ◌<◌, ltb, get_or, drop}
use mathlib.Core.List.{List, [], ◌∷◌}
use Rattle.std.proofs.Math.Path.{refl, sym}
use Rattle.std.proofs.Common.{◌∙◌, ap, add-one, arith, le-leb, drop_of_length-le}
use Rattle.std.proofs.Math.Decide.{dec_lt}
use Rattle.std.proofs.lemmas.Bool.{lt-leb}
use Rattle.std.proofs.Math.ListN.{length}
use Rattle.std.proofs.Math.Seq.{drop-cons}
use Rattle.number.specs.TestLaws.{tests}
use Rattle.number.specs.Number.{Number, number_at, value, refused_at}
use Rattle.number.specs.declared.cause.Refusal.{Refusal}
use Rattle.book.specs.Book.{Row, read, refused as unread, admitted}
use Rattle.book.specs.BookLaws.{ends_read, ends-refused}
use Rattle.book.specs.Call.{step}
use Rattle.book.specs.CallLaws.{step-refuses, step-passes}
use Rattle.book.specs.RowLaws.{ends, refused-not-read, row-length}
use Rattle.lists.specs.Entry.{length_fault, symbol_fault, part}
use Rattle.lists.specs.EntryLaws.{Symbols}
use Rattle.lists.proofs.EntryLaws.{symbols-spelled, inside, admitted-found, number-within}
use Rattle.walk.specs.Scale.{plain}
use Rattle.certificate.specs.Sentences.{after_length, sentence_at, claimed_at, Spelled, spelled, refused, before, followed, sentences_at, closed, sentences_in}

pub refused-not-spelled : (r : Refusal) (ws : List (List ℕ)) (end : ℕ) → refused r ≡ spelled ws end → ⊥
refused-not-spelled r ws end e = let z : ◌≡◌ {A = ℕ} 0 1 = cc in omega arith

-- ---- one sentence that was read
pub record Sentence (t : ℕ) (bytes : List ℕ) (at : ℕ) (w : List ℕ) (next : ℕ) : Type 0 where
  pub start : ℕ
  pub begins : number_at bytes at ≡ value (length w) start
  pub short : length w ≤ plain.limit
  pub spelt : w ≡ part bytes start (length w)
  pub after : next ≡ start + length w
  pub symbols : Symbols t bytes start (length w)

pub sentence-read : (t : ℕ) (bytes : List ℕ) (at : ℕ) (w : List ℕ) (next : ℕ) → t ≤ 128 → sentence_at t bytes at ≡ read w next → Sentence t bytes at w next
unfolding sentence_at
sentence-read t bytes at w next few e = go (admitted length_fault at (number_at bytes at)) refl e
  where
    go : (n : Number) → admitted length_fault at (number_at bytes at) ≡ n → after_length t bytes n ≡ read w next → Sentence t bytes at w next
    go (Err r) g f = absurd (refused-not-read r w next f)
    go (Ok (len, c)) g f =
        let count : length w ≡ len = row-length (number_at bytes) (symbol_fault t) len [] c.at w next f in
        let (m, o) = admitted-found length_fault at (number_at bytes at) len c g in
        let short = inside 0 1001 Cause.Length len o in
        let s = symbols-spelled t bytes c.at len w next few f (number-within bytes at len c.at m) in
        let same : read w next ≡ read (part bytes c.at len) (c.at + len) = sym f ∙ s.row in
        record { start = c.at; begins = rw count m; short = omega arith; spelt = rw count (cc); after = rw count (cc); symbols = rw count s }

-- ---- a pair has a sentence exactly where it is claimed at 1,000 or less
pub claimed-some : (t : ℕ) (bytes : List ℕ) (claim at : ℕ) → claim ≤ plain.limit → claimed_at t bytes claim at ≡ sentence_at t bytes at
claimed-some t bytes claim at h = rw (le-leb claim 1000 h)

pub claimed-none : (t : ℕ) (bytes : List ℕ) (claim at : ℕ) → plain.limit < claim → claimed_at t bytes claim at ≡ read [] at
claimed-none t bytes claim at h = rw (lt-leb claim 1000 h)

-- ---- sentences that were read: the first, and the others
pub record Front (t : ℕ) (bytes : List ℕ) (claim : ℕ) (claims : List ℕ) (at : ℕ) (ws : List (List ℕ)) (end : ℕ) : Type 0 where
  pub sentence : List ℕ
  pub next : ℕ
  pub rest : List (List ℕ)
  pub found : claimed_at t bytes claim at ≡ read sentence next
  pub split : ws ≡ sentence ∷ rest
  pub onward : sentences_at t bytes claims next ≡ spelled rest end

-- what was read for pair k, whose sentence would stand at an offset: its own, then the later ones
pub record Turn (t : ℕ) (bytes claims : List ℕ) (k at : ℕ) (ws : List (List ℕ)) (end : ℕ) : Type 0 where
  pub next : ℕ
  pub found : claimed_at t bytes (get_or claims k 0) at ≡ read (get_or ws k []) next
  pub onward : sentences_at t bytes (drop (suc k) claims) next ≡ spelled (drop (suc k) ws) end

module _ (t : ℕ) (bytes : List ℕ) where
  pub sentences-front : (claim : ℕ) (claims : List ℕ) (at : ℕ) (ws : List (List ℕ)) (end : ℕ) → sentences_at t bytes (claim ∷ claims) at ≡ spelled ws end
      → Front t bytes claim claims at ws end
  unfolding sentences_at
  sentences-front claim claims at ws end e = first (claimed_at t bytes claim at) refl e
    where
      second : (w : List ℕ) (next : ℕ) → claimed_at t bytes claim at ≡ read w next → (x : Spelled) → sentences_at t bytes claims next ≡ x → before w x ≡ spelled ws end
          → Front t bytes claim claims at ws end
      second w next f (refused r) g h = absurd (refused-not-spelled r ws end h)
      second w next f (spelled rest last) g h =
          let j : last ≡ end = cc in
          record { sentence = w; next = next; rest = rest; found = f; split = cc; onward = rw j at g }

      first : (x : Row) → claimed_at t bytes claim at ≡ x → followed x (λ next. sentences_at t bytes claims next) ≡ spelled ws end → Front t bytes claim claims at ws end
      first (unread r) f g = absurd (refused-not-spelled r ws end g)
      first (read w next) f g = second w next f (sentences_at t bytes claims next) refl g

  sentences-none : (at : ℕ) (ws : List (List ℕ)) (end : ℕ) → sentences_at t bytes [] at ≡ spelled ws end → [] ≡ ws
  unfolding sentences_at
  sentences-none at ws end e = cc

  -- as many as there are pairs
  pub sentences-count : (claims : List ℕ) (at : ℕ) (ws : List (List ℕ)) (end : ℕ) → sentences_at t bytes claims at ≡ spelled ws end → length ws ≡ length claims
  sentences-count [] at ws end e = ap length (sym (sentences-none at ws end e))
  sentences-count (claim ∷ claims) at ws end e =
      let f = sentences-front claim claims at ws end e in
      rw f.split (ap suc (sentences-count claims f.next f.rest end f.onward))

  pub turn_at : (claims : List ℕ) (k at : ℕ) (ws : List (List ℕ)) (end : ℕ) → length ws ≡ length claims → k < length claims
      → sentences_at t bytes (drop k claims) at ≡ spelled (drop k ws) end → Turn t bytes claims k at ws end
  turn_at claims k at ws end same h e =
      let f = sentences-front (get_or claims k 0) (drop (suc k) claims) at (drop k ws) end (rw (drop-cons claims k 0 h) at e) in
      let split : drop k ws ≡ get_or ws k [] ∷ drop (suc k) ws = drop-cons ws k [] (omega arith) in
      let first : f.sentence ≡ get_or ws k [] = cc f.split in
      let others : f.rest ≡ drop (suc k) ws = cc f.split in
      record { next = f.next; found = rw first at f.found; onward = rw others at f.onward }

  -- the sentence of a pair that has one
  pub turn-sentence : {claims : List ℕ} {k at : ℕ} {ws : List (List ℕ)} {end : ℕ} → t ≤ 128 → get_or claims k 0 ≤ plain.limit → (r : Turn t bytes claims k at ws end)
      → Sentence t bytes at (get_or ws k []) r.next
  turn-sentence {claims} {k} {at} {ws} few l r = sentence-read t bytes at (get_or ws k []) r.next few (sym (claimed-some t bytes (get_or claims k 0) at l) ∙ r.found)

  -- those that were admitted are all that the bytes hold
  pub sentences-whole : (claims : List ℕ) (ws : List (List ℕ)) (end : ℕ) → sentences_in t bytes claims ≡ spelled ws end
      → (sentences_at t bytes claims 0 ≡ spelled ws end) × (length bytes ≤ end)
  unfolding sentences_in
  sentences-whole claims ws end e = go (sentences_at t bytes claims 0) refl e
    where
      by_end : (us : List (List ℕ)) (at : ℕ) → sentences_at t bytes claims 0 ≡ spelled us at → closed (length bytes) (spelled us at) ≡ spelled ws end
          → Dec (at < length bytes) → (sentences_at t bytes claims 0 ≡ spelled ws end) × (length bytes ≤ end)
      by_end us at i f (yes h) = absurd (refused-not-spelled _ ws end (simp tests at f))
      by_end us at i f (no h) =
          let g : spelled us at ≡ spelled ws end = simp tests at f in
          let j : at ≡ end = cc in
          (i ∙ g, omega arith)

      go : (x : Spelled) → sentences_at t bytes claims 0 ≡ x → closed (length bytes) x ≡ spelled ws end → (sentences_at t bytes claims 0 ≡ spelled ws end) × (length bytes ≤ end)
      go (refused r) i f = absurd (refused-not-spelled r ws end f)
      go (spelled us at) i f = by_end us at i f (dec_lt at (length bytes))

-- ---- where they end, or their refusal: what a loop that keeps no sentence knows of them
abbrev pub spelled_end : Spelled → Result ℕ Refusal
spelled_end (spelled ws at) = Ok at
spelled_end (refused r) = Err r

refused-not-end : (r : Refusal) (next : ℕ) → ◌≡◌ {A = Result ℕ Refusal} (Err r) (Ok next) → ⊥
refused-not-end r next e = let z : ◌≡◌ {A = ℕ} 0 1 = cc in omega arith

pub spelled-ends : (x : Spelled) (next : ℕ) → spelled_end x ≡ Ok next → (ws : List (List ℕ)) × (x ≡ spelled ws next)
spelled-ends (spelled ws at) next e = let f : at ≡ next = cc in (ws, ap (spelled ws) f)
spelled-ends (refused r) next e = absurd (refused-not-end r next e)

pub spelled-refused : (x : Spelled) (r : Refusal) → spelled_end x ≡ Err r → x ≡ refused r
spelled-refused (spelled ws at) r e = absurd (refused-not-end r at (sym e))
spelled-refused (refused q) r e = cc

-- the verdict on sentences that ended so
abbrev pub spelled_closing : ℕ → Result ℕ Refusal → Result ℕ Refusal
spelled_closing end (Err r) = Err r
spelled_closing end (Ok at) = cond (ltb at end) (Err (refused_at Cause.Surplus at)) (Ok at)

pub sentences-closing : (t : ℕ) (bytes claims : List ℕ) → spelled_end (sentences_in t bytes claims) ≡ spelled_closing (length bytes) (spelled_end (sentences_at t bytes claims 0))
unfolding sentences_in
sentences-closing t bytes claims = go (sentences_at t bytes claims 0)
  where
    by_end : (ws : List (List ℕ)) (at : ℕ) → Dec (at < length bytes) → spelled_end (closed (length bytes) (spelled ws at)) ≡ spelled_closing (length bytes) (Ok at)
    by_end ws at (yes h) = simp tests
    by_end ws at (no h) = simp tests

    go : (x : Spelled) → spelled_end (closed (length bytes) x) ≡ spelled_closing (length bytes) (spelled_end x)
    go (refused r) = refl
    go (spelled ws at) = by_end ws at (dec_lt at (length bytes))

-- what follows the last sentence is refused
pub closing-stops : (end at : ℕ) {r : Refusal} → Err r ≡ step (ltb at end) Cause.Surplus at → Err r ≡ spelled_closing end (Ok at)
closing-stops end at e = let (after, same) = step-refuses (ltb at end) Cause.Surplus at e in rw (after, same)

pub closing-passes : (end at : ℕ) {u : ⊤} → Ok u ≡ step (ltb at end) Cause.Surplus at → Ok at ≡ spelled_closing end (Ok at)
closing-passes end at e = rw (step-passes (ltb at end) Cause.Surplus at e)

-- a loop over the pairs: k are passed, and the next sentence stands at an offset
pub record SentencesPassed (t : ℕ) (bytes claims : List ℕ) (k at : ℕ) : Type 0 where
  pub left : spelled_end (sentences_at t bytes claims 0) ≡ spelled_end (sentences_at t bytes (drop k claims) at)

end_before : (w : List ℕ) (x : Spelled) → spelled_end (before w x) ≡ spelled_end x
end_before w (spelled ws at) = refl
end_before w (refused r) = refl

module _ {t : ℕ} {bytes claims : List ℕ} where
  pub passed_none : SentencesPassed t bytes claims 0 0
  passed_none = record { left = refl }

  passed-more : {k at : ℕ} (w : List ℕ) (next : ℕ) → SentencesPassed t bytes claims k at → k < length claims → claimed_at t bytes (get_or claims k 0) at ≡ read w next
      → SentencesPassed t bytes claims (k + 1) next
  unfolding sentences_at
  passed-more {k} {at} w next p h e = record { left = p.left ∙ rw (add-one, drop-cons claims k 0 h, e) (end_before w (sentences_at t bytes (drop (suc k) claims) next)) }

  -- a pair with a sentence, which was read
  pub passed-some : {k at next : ℕ} → SentencesPassed t bytes claims k at → k < length claims → get_or claims k 0 ≤ plain.limit
      → ends (sentence_at t bytes at) ≡ Ok next → SentencesPassed t bytes claims (k + 1) next
  passed-some {k} {at} {next} p h l e =
      let (w, f) = ends_read (sentence_at t bytes at) next e in
      passed-more w next p h (claimed-some t bytes (get_or claims k 0) at l ∙ f)

  -- a pair without one
  pub passed-long : {k at : ℕ} → SentencesPassed t bytes claims k at → k < length claims → plain.limit < get_or claims k 0 → SentencesPassed t bytes claims (k + 1) at
  passed-long {k} {at} p h l = passed-more [] at p h (claimed-none t bytes (get_or claims k 0) at l)

  pub passed-stop : {k at : ℕ} {r : Refusal} → SentencesPassed t bytes claims k at → k < length claims → get_or claims k 0 ≤ plain.limit
      → ends (sentence_at t bytes at) ≡ Err r → Err r ≡ spelled_end (sentences_at t bytes claims 0)
  unfolding sentences_at
  passed-stop {k} {at} {r} p h l e = sym (p.left ∙ rw (drop-cons claims k 0 h, claimed-some t bytes (get_or claims k 0) at l, ends-refused (sentence_at t bytes at) r e))

  pub passed-done : {k at : ℕ} → SentencesPassed t bytes claims k at → length claims ≤ k → Ok at ≡ spelled_end (sentences_at t bytes claims 0)
  unfolding sentences_at
  passed-done {k} p h = sym (p.left ∙ rw (drop_of_length-le claims h))
