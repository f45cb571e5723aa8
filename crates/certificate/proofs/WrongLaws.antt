-- Laws of a loop over the pairs that looks for the first wrong sentence. Assumes nothing.
use Rattle.std.specs.Prelude.{Ok, Err, true, false, List, [], ◌⊎◌, ◌≡◌, ℕ, suc, ◌+◌, ◌/◌, ◌%◌, ◌≤◌, ◌<◌, length, get_or, drop}
use Rattle.std.proofs.lemmas.Bool.{false≢true}
use Rattle.std.proofs.Common.{inl, inr, sym, ◌∙◌, add-one, arith}
use Rattle.std.proofs.Math.Decide.{ℕ_discrete, dec_lt}
use Rattle.number.specs.Number.{number_at}
use Rattle.number.specs.NumberLaws.{value-is, refused-not-value}
use Rattle.number.specs.declared.Cursor.{Cursor}
use Rattle.number.specs.declared.cause.Refusal.{Refusal}
use Rattle.book.specs.Book.{read}
use Rattle.book.specs.Tables.{Tables}
use Rattle.machine.specs.AdmissionLaws.{sound-all}
use Rattle.machine.specs.Run.{sound_prefix}
use Rattle.lists.specs.Entry.{part}
use Rattle.lists.specs.EntryLaws.{Symbols}
use Rattle.lists.proofs.EntryLaws.{part_length}
use Rattle.walk.specs.Scale.{plain}
use Rattle.certificate.specs.Certificate.{is_right}
use Rattle.roads.specs.Lowest.{Lowest}
use Rattle.certificate.specs.Sentences.{spelled, sentences_at, sentences_in}
use Rattle.certificate.specs.SentencesLaws.{Sentence, Turn, turn_at, turn-sentence, claimed-none, sentences-count, sentences-whole, spelled_end, spelled-ends}
use Rattle.certificate.specs.Wrong.{Admitted, WrongSentence, LowestWrong}

-- sentences with an end are admitted
pub ended-admitted : {next : ℕ} (t : ℕ) (bytes pairs : List ℕ) → spelled_end (sentences_in t bytes pairs) ≡ Ok next → Admitted t bytes pairs
ended-admitted {next} t bytes pairs e =
    let (ws, f) = spelled-ends (sentences_in t bytes pairs) next e in
    record { ws = ws; end = next; whole = f }

-- symbols that were read are terminals
pub symbols-sound : {t : ℕ} {bytes : List ℕ} {start len : ℕ} → Symbols t bytes start len → sound_prefix t (part bytes start len) ≡ length (part bytes start len)
symbols-sound {t} {bytes} {start} {len} s =
    sound-all t (part bytes start len) (λ i h. s.symbol i (rw (part_length bytes start len s.within) at h))

-- the pairs before k have no wrong sentence, and that of pair k would stand at an offset
pub record Standing (B : Tables) (t : ℕ) (bytes pairs : List ℕ) (k at : ℕ) : Type 0 where
  pub ws : List (List ℕ)
  pub end : ℕ
  pub whole : sentences_in t bytes pairs ≡ spelled ws end
  pub onward : sentences_at t bytes (drop k pairs) at ≡ spelled (drop k ws) end
  pub right : (j : ℕ) → j < k → ¬ WrongSentence B t pairs ws j

-- the sentence of pair k: len symbols from start on
pub record Stood (t : ℕ) (bytes pairs : List ℕ) (k start len : ℕ) (ws : List (List ℕ)) (end : ℕ) : Type 0 where
  pub spelt : get_or ws k [] ≡ part bytes start len
  pub symbols : Symbols t bytes start len
  pub onward : sentences_at t bytes (drop (suc k) pairs) (start + len) ≡ spelled (drop (suc k) ws) end

module _ {B : Tables} {t : ℕ} {bytes pairs : List ℕ} where
  pub standing-none : Admitted t bytes pairs → Standing B t bytes pairs 0 0
  standing-none a = record {
    ws = a.ws;
    end = a.end;
    whole = a.whole;
    onward = (sentences-whole t bytes pairs a.ws a.end a.whole).0;
    right = λ j h. absurd (omega arith);
  }

  module _ {k at : ℕ} (s : Standing B t bytes pairs k at) where
    first : (j : ℕ) → WrongSentence B t pairs s.ws j → k ≤ j
    first j w = go (dec_lt j k)
      where
        go : Dec (j < k) → k ≤ j
        go (yes g) = absurd (s.right j g w)
        go (no g) = omega arith

    -- the bytes and the claims fix the sentences
    told : (k ≡ length pairs) ⊎ WrongSentence B t pairs s.ws k → LowestWrong B t bytes pairs k
    told x =
        let low : Lowest (WrongSentence B t pairs s.ws) (length pairs) k = record { below = first; attained = x } in
        record { is = λ ws end e. (let same : s.ws ≡ ws = cc in rw same at low) }

    pub standing-done : k ≤ length pairs → length pairs ≤ k → LowestWrong B t bytes pairs k
    standing-done h g = told (inl (omega arith))

  module _ {k at : ℕ} (s : Standing B t bytes pairs k at) (h : k < length pairs) where
    turn : Turn t bytes pairs k at s.ws s.end
    turn =
        let count = sentences-count t bytes pairs 0 s.ws s.end (sentences-whole t bytes pairs s.ws s.end s.whole).0 in
        turn_at t bytes pairs k at s.ws s.end count h s.onward

    -- one pair more, whose sentence is not wrong
    more : {next : ℕ} → sentences_at t bytes (drop (suc k) pairs) next ≡ spelled (drop (suc k) s.ws) s.end → ¬ WrongSentence B t pairs s.ws k
        → Standing B t bytes pairs (k + 1) next
    more e n = record { ws = s.ws; end = s.end; whole = s.whole; onward = rw add-one e; right = λ j l. below j l (ℕ_discrete j k) }
      where
        below : (j : ℕ) → j < k + 1 → Dec (j ≡ k) → ¬ WrongSentence B t pairs s.ws j
        below j l (yes i) = rw i n
        below j l (no i) = s.right j (omega arith)

    -- a pair that has none
    pub standing-long : plain.limit < get_or pairs k 0 → Standing B t bytes pairs (k + 1) at
    standing-long l =
        let r = turn in
        let f : read [] at ≡ read (get_or s.ws k []) r.next = sym (claimed-none t bytes (get_or pairs k 0) at l) ∙ r.found in
        let same : r.next ≡ at = cc in
        more (rw same at r.onward) (λ w. omega (arith, w.claimed))

    -- a pair that has one
    module _ (few : t ≤ 32) (l : get_or pairs k 0 ≤ plain.limit) where
      sentence : Sentence t bytes at (get_or s.ws k []) turn.next
      sentence = turn-sentence t bytes (omega arith) l turn

      pub standing-refused : (r : Refusal) → ¬ (number_at bytes at ≡ Err r)
      standing-refused r e = let q = sentence in refused-not-value r (length (get_or s.ws k [])) q.start (sym e ∙ q.begins)

      pub stood : {len : ℕ} {c : Cursor} → number_at bytes at ≡ Ok (len, c) → Stood t bytes pairs k c.at len s.ws s.end
      stood {len} {c} e =
          let q = sentence in
          let (i, j) = value-is (length (get_or s.ws k [])) q.start len c.at (sym q.begins ∙ e) in
          record { spelt = rw (i, j) at q.spelt; symbols = rw (i, j) at q.symbols; onward = rw (q.after, i, j) at turn.onward }

      module _ {len : ℕ} {c : Cursor} (e : number_at bytes at ≡ Ok (len, c)) where
        pub standing-right : is_right B (part bytes c.at len) (k % t) (k / t) (get_or pairs k 0) ≡ true → Standing B t bytes pairs (k + 1) (c.at + len)
        standing-right f = let q = stood e in more q.onward (λ w. false≢true (sym w.wrong ∙ rw q.spelt f))

        pub standing-wrong : is_right B (part bytes c.at len) (k % t) (k / t) (get_or pairs k 0) ≡ false → LowestWrong B t bytes pairs k
        standing-wrong f =
            let q = stood e in
            told s (inr (record { there = h; claimed = l; wrong = rw q.spelt f }))
