-- A scale of tariffs, and the answer in its words: least charge, then fewest symbols, then ranks. No call uses it yet; it shows that a
-- scale can order by two measures. Assumes nothing.
use Rattle.std.specs.Prelude.{List, [], ◌∷◌, ◌⊎◌, ◌≢◌, ◌≡◌, ℕ, ◌+◌, ◌*◌, ◌≤◌, ◌<◌}
use Rattle.walk.specs.Scale.{Scale}
use Rattle.walk.specs.Answer.{Outcome, Unreached, Long, Sentence}
use Rattle.walk.specs.Shortest.{Shorter}

-- form 3: 'one tariff per terminal'. One number orders by charge and then by symbols; the limit is the last number whose charge is 60,000
abbrev pub tariffed : (ℕ → ℕ) → Scale
tariffed tariff = record { extra = λ t. tariff t * 65_536; limit = 60_000 * 65_536 + 65_535 }

-- 'total charge'
abbrev pub charge : (ℕ → ℕ) → List ℕ → ℕ
charge tariff [] = 0
charge tariff (t ∷ w) = tariff t + charge tariff w

-- 'the least total charge, then the fewest symbols, then ranks'
abbrev pub Cheaper : (ℕ → ℕ) → (ℕ → ℕ) → List ℕ → List ℕ → Type 0
Cheaper tariff rank v w = (charge tariff v < charge tariff w) ⊎ ((charge tariff v ≡ charge tariff w) × Shorter rank v w)

-- of a set P of words: 'Long means that some sequence arrives but none for at most 60,000 tenths'
abbrev pub Cheapest : (ℕ → ℕ) → (ℕ → ℕ) → (List ℕ → Type 0) → Outcome → Type 0
Cheapest tariff rank P Unreached = (w : List ℕ) → ¬ P w
Cheapest tariff rank P Long = ((w : List ℕ) × P w) × ((w : List ℕ) → P w → 60_000 < charge tariff w)
Cheapest tariff rank P (Sentence w) = P w × (charge tariff w ≤ 60_000) × ((v : List ℕ) → P v → v ≢ w → Cheaper tariff rank w v)

-- 'the map holds charges, with 60,001 and 60,002 as its two marks'
abbrev pub charge_of : (ℕ → ℕ) → Outcome → ℕ
charge_of tariff Unreached = 60_002
charge_of tariff Long = 60_001
charge_of tariff (Sentence w) = charge tariff w
