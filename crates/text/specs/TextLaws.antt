-- Laws of words in a line. Assumes nothing.
use Rattle.std.specs.Prelude.{List, [], ◌∷◌, ◌++◌, map, ◌≡◌, refl, ℕ, ◌+◌, ◌*◌, ◌≤◌, ◌<◌, length, take, get_or}
use Rattle.std.proofs.Common.{append-nil, append_assoc, ◌∙◌, add-one, arith, take-suc}
use Rattle.text.specs.Decimal.{decimal}
use Rattle.text.specs.DecimalLaws.{decimal-byte}
use Rattle.text.specs.Put.{Put}
use Rattle.text.specs.PutLaws.{put_then}
use Rattle.text.specs.Text.{spaced, line}

-- pieces one after the other are a line
pub two-words : (a b c d : List ℕ) → (((a ++ 32 ∷ b) ++ 32 ∷ c) ++ 32 ∷ d) ++ 10 ∷ [] ≡ line a (b ∷ c ∷ d ∷ [])
two-words a b c d = simp append_assoc

-- ---- symbols one after the other
spaced-more : (ws : List (List ℕ)) (w : List ℕ) → spaced (ws ++ w ∷ []) ≡ spaced ws ++ 32 ∷ w
spaced-more [] w = rw append-nil
spaced-more (v ∷ ws) w = rw (spaced-more ws w, append_assoc)

map_more : (w : List ℕ) (a : ℕ) → map decimal (w ++ a ∷ []) ≡ map decimal w ++ decimal a ∷ []
map_more [] a = refl
map_more (b ∷ w) a = rw (map_more w a)

-- i symbols of the sentence were put, each with at most three digits
pub record Spelt (w lent : List ℕ) (at : ℕ) (now : List ℕ) (next i : ℕ) : Type 0 where
  pub size : length now ≡ length lent
  pub put : Put (spaced (map decimal (take i w))) lent at now next
  pub near : next ≤ at + 4 * i

module _ {w lent : List ℕ} {at : ℕ} where
  pub spelt-none : Spelt w lent at lent at 0
  spelt-none = record { size = refl; put = record { stored = refl; after = omega arith }; near = omega arith }

  pub spelt-more : {now left : List ℕ} {next end i : ℕ} → Spelt w lent at now next i → i < length w → get_or w i 0 < 256 → length left ≡ length now
      → Put (32 ∷ decimal (get_or w i 0)) now next left end → Spelt w lent at left end (i + 1)
  spelt-more {i} p h small e q = record {
    size = e ∙ p.size;
    put = rw (add-one, take-suc w i 0, map_more, spaced-more) (put_then p.put q);
    near = omega (arith, p.near, q.after, decimal-byte (get_or w i 0) small);
  }
