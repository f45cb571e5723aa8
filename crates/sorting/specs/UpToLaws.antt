-- Laws of bytes that are put state by state, and what they are where each state's are those of its entries. Assumes nothing.
use Rattle.std.specs.Prelude.{List, ◌++◌, ◌≡◌, ℕ, zero, suc, ◌+◌, ◌≤◌, ◌<◌, length}
use Rattle.std.proofs.Math.Path.{refl}
use Rattle.std.proofs.Common.{◌∙◌, arith, length-append}
use Rattle.std.proofs.Math.Decide.{ℕ_discrete}
use Rattle.std.proofs.Math.Numerals.{add-one}
use Rattle.std.proofs.lemmas.List.Edits.{sets}
use Rattle.std.proofs.Math.Seq.{length-sets}
use Rattle.sorting.specs.PutLaws.{put-more}
use Rattle.sorting.specs.UpTo.{up_to}

module _ (piece : ℕ → List ℕ) where
  pub up-to-none : length (up_to piece 0) ≡ 0
  unfolding up_to
  up-to-none = refl

  up-to-more : (s : ℕ) → up_to piece (s + 1) ≡ up_to piece s ++ piece s
  unfolding up_to
  up-to-more s = rw add-one

  pub up-to-length : (s : ℕ) → length (up_to piece (s + 1)) ≡ length (up_to piece s) + length (piece s)
  up-to-length s = rw (up-to-more s, length-append)

  -- those of fewer states are no more bytes
  pub up-to-part : (s n : ℕ) → s ≤ n → length (up_to piece s) ≤ length (up_to piece n)
  up-to-part s zero h = let e : s ≡ 0 = omega arith in rw e (omega arith)
  up-to-part s (suc n) h = go (ℕ_discrete s (suc n)) (λ l. up-to-part s n l)
    where
      go : Dec (s ≡ suc n) → (s ≤ n → length (up_to piece s) ≤ length (up_to piece n)) → length (up_to piece s) ≤ length (up_to piece (suc n))
      go (yes e) f = rw e (omega arith)
      go (no d) f = omega (arith, f (omega arith), rw add-one at (up-to-length n))

-- ---- those of the first s states are put from an offset on, up to the next
pub record PutUpTo (piece : ℕ → List ℕ) (start : ℕ) (lent : List ℕ) (s next : ℕ) (out : List ℕ) : Type 0 where
  pub ahead : next ≡ start + length (up_to piece s)
  pub put : out ≡ sets lent start (up_to piece s)

module _ {piece : ℕ → List ℕ} {start : ℕ} {lent : List ℕ} where
  pub put-none : PutUpTo piece start lent 0 start lent
  unfolding up_to
  put-none = record { ahead = omega arith; put = refl }

  pub put-length : {s next : ℕ} {out : List ℕ} → PutUpTo piece start lent s next out → length out ≡ length lent
  put-length {s} p = rw p.put (length-sets lent start (up_to piece s))

  pub put-fits : {s next : ℕ} {out : List ℕ} (n : ℕ) → PutUpTo piece start lent s next out → s < n → start + length (up_to piece n) ≤ length lent
      → next + length (piece s) ≤ length out
  put-fits {s} n p h f = omega (arith, p.ahead, put-length p, up-to-length piece s, up-to-part piece (s + 1) n (omega arith))

  pub put-state : {s next : ℕ} {out : List ℕ} (more : ℕ) (new : List ℕ) → PutUpTo piece start lent s next out → more ≡ next + length (piece s)
      → new ≡ sets out next (piece s) → PutUpTo piece start lent (s + 1) more new
  put-state {s} {next} more new p e f = record {
    ahead = omega (arith, p.ahead, up-to-length piece s);
    put = rw (up-to-more piece s) (rw p.put at f ∙ put-more (up_to piece s) (piece s) lent start next p.ahead);
  }
