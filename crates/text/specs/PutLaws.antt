-- Laws of bytes put at a place. Assumes nothing.
use Rattle.std.specs.Prelude.{List, [], ◌∷◌, ◌++◌, ◌≡◌, refl, ℕ, suc, ◌+◌, ◌<◌, length, get_or, set, take}
use Rattle.std.proofs.Common.{sym, ◌∙◌, add-zero, add-suc, suc-add, add-one, arith, length-append, length-set, take-suc, length-take-le}
use Rattle.std.proofs.lemmas.List.Edits.{sets}
use Rattle.std.proofs.Math.Seq.{take-length}
use Rattle.text.specs.Put.{Put}

sets-append : (lent : List ℕ) (at : ℕ) (xs ys : List ℕ) → sets (sets lent at xs) (at + length xs) ys ≡ sets lent at (xs ++ ys)
sets-append lent at [] ys = rw add-zero
sets-append lent at (x ∷ xs) ys =
    let e : at + suc (length xs) ≡ suc at + length xs = add-suc at (length xs) ∙ sym (suc-add at (length xs)) in
    rw e (sets-append (set lent at x) (suc at) xs ys)

module _ {xs ys lent left done : List ℕ} {at next end : ℕ} where
  -- one piece after the other
  pub put_then : Put xs lent at left next → Put ys left next done end → Put (xs ++ ys) lent at done end
  put_then p q = record {
    stored = q.stored ∙ rw (p.stored, p.after) (sets-append lent at xs ys);
    after = q.after ∙ rw (p.after, length-append) (omega arith);
  }

-- a byte, and a piece after it
pub put-after : {x : ℕ} {xs lent left : List ℕ} {at next : ℕ} → Put xs (set lent at x) (at + 1) left next → Put (x ∷ xs) lent at left next
put-after {x} {xs} {lent} {left} {at} p = record { stored = rw add-one at p.stored; after = p.after ∙ omega arith }

-- ---- copying a word, byte by byte
pub record WordCopied (word lent : List ℕ) (at : ℕ) (now : List ℕ) (i : ℕ) : Type 0 where
  pub size : length now ≡ length lent
  pub same : now ≡ sets lent at (take i word)

module _ {word lent : List ℕ} {at : ℕ} where
  pub word-copied-none : WordCopied word lent at lent 0
  word-copied-none = record { size = refl; same = refl }

  pub word-copied-more : {now : List ℕ} {i : ℕ} → WordCopied word lent at now i → i < length word → WordCopied word lent at (set now (at + i) (get_or word i 0)) (i + 1)
  word-copied-more {now} {i} c h =
      let n : length (take i word) ≡ i = length-take-le i word (omega arith) in
      let step = rw n at (sets-append lent at (take i word) (get_or word i 0 ∷ [])) in
      let e : set now (at + i) (get_or word i 0) ≡ sets lent at (take i word ++ get_or word i 0 ∷ []) = rw c.same step in
      record {
        size = length-set now (at + i) (get_or word i 0) ∙ c.size;
        same = rw (add-one, take-suc word i 0) e;
      }

  pub copied-done : {now : List ℕ} {i next : ℕ} → WordCopied word lent at now i → i ≡ length word → next ≡ at + length word → Put word lent at now next
  copied-done c e f = record { stored = c.same ∙ rw (e, take-length); after = f }
