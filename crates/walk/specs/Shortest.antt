-- The answer by lengths, in the words of forms 1 and 2; `best-shortest` shows that `Best plain` is this. Assumes nothing.
use Rattle.std.specs.Prelude.{List, ◌∷◌, length, ◌⊎◌, ◌≢◌, ◌≡◌, ℕ, ◌≤◌, ◌<◌}
use Rattle.walk.specs.Answer.{Outcome, Unreached, Long, Sentence}

-- 'Of two different sequences of equal length, the one with the smaller terminal number at the first difference is earlier in order'
pub data Before (rank : ℕ → ℕ) : List ℕ → List ℕ → Type 0 where
  differs : {a b : ℕ} {v w : List ℕ} → rank a < rank b → length v ≡ length w → Before rank (a ∷ v) (b ∷ w)
  agrees : {a : ℕ} {v w : List ℕ} → Before rank v w → Before rank (a ∷ v) (a ∷ w)

-- 'of the shortest that reach the pair, the earliest in order': v comes before w if it is shorter, or as long and earlier
abbrev pub Shorter : (ℕ → ℕ) → List ℕ → List ℕ → Type 0
Shorter rank v w = (length v < length w) ⊎ Before rank v w

-- of the words P that reach the pair: 'unreached if no sequence, however long, reaches it, and long if some sequence reaches it but none of
-- at most 1,000 symbols'; a sentence: 'of the shortest that reach the pair, the earliest in order'
abbrev pub Shortest : (ℕ → ℕ) → (List ℕ → Type 0) → Outcome → Type 0
Shortest rank P Unreached = (w : List ℕ) → ¬ P w
Shortest rank P Long = ((w : List ℕ) × P w) × ((w : List ℕ) → P w → 1000 < length w)
Shortest rank P (Sentence w) = P w × (length w ≤ 1000) × ((v : List ℕ) → P v → v ≢ w → Shorter rank w v)

-- 'the least length, 1,001 for long, 1,002 for unreached'
abbrev pub length_of : Outcome → ℕ
length_of Unreached = 1002
length_of Long = 1001
length_of (Sentence w) = length w
