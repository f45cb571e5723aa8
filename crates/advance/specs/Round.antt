-- Rounds: what holds of the distances while they are found, round m after round m. Assumes nothing.
use Rattle.std.specs.Prelude.{cond, List, [], ◌∷◌, ◌⊎◌, ◌≡◌, ℕ, suc, ◌+◌, ◌≤◌, ◌<◌, ltb, length, get_or, set}
use Rattle.book.specs.Tables.{Tables}
use Rattle.walk.specs.Claims.{Claims}
use Rattle.advance.specs.Nearest.{far, Shifts, LeadsTo, SoundDistances, Nearest}

-- how many entries are not the mark
unfoldable pub numbered : List ℕ → ℕ
numbered [] = 0
numbered (v ∷ l) = cond (ltb v far) 1 0 + numbered l

-- what a state gets before the rounds
pub data First (B : Tables) (x q : ℕ) : ℕ → Type 0 where
  shifting : Shifts B x q → First B x q 0
  other : ¬ Shifts B x q → First B x q far

-- the states below i have got it, the others the mark
pub record Started (B : Tables) (x i : ℕ) (to : List ℕ) : Type 0 where
  pub size : length to ≡ 128
  pub first : (q : ℕ) → q < i → First B x q (get_or to q 0)
  pub rest : (q : ℕ) → i ≤ q → q < 128 → get_or to q 0 ≡ far

-- the turn of state q in round m: it gets m + 1 if it has none yet and a goto leads to a state at distance m; how many got one
pub data Turn (B : Tables) (claim : Claims) (x m q : ℕ) (old : List ℕ) : ℕ → List ℕ → Type 0 where
  kept : (get_or old q 0 ≡ far → (X : ℕ) → ¬ LeadsTo B claim x old q m X) → Turn B claim x m q old 0 old
  given : {X : ℕ} → get_or old q 0 ≡ far → LeadsTo B claim x old q m X → Turn B claim x m q old 1 (set old q (m + 1))

-- the rounds below m are done, and round m for the states below i, of which r got a distance. Each round but the last gives
-- one to some state, so more than m have one: this bounds m
pub record Round (B : Tables) (claim : Claims) (x m i r : ℕ) (to : List ℕ) : Type 0 where
  pub sound : SoundDistances B claim x to
  pub most : (q : ℕ) → (get_or to q 0 ≤ suc m) ⊎ (get_or to q 0 ≡ far)
  pub idle : r ≡ 0 → (q : ℕ) → (get_or to q 0 ≤ m) ⊎ (get_or to q 0 ≡ far)
  pub complete : (q k X : ℕ) → LeadsTo B claim x to q k X → (k < m) ⊎ ((k ≡ m) × (q < i)) → get_or to q 0 ≤ suc k
  pub count : (q : ℕ) → q < B.states → get_or to q 0 ≡ m → m + r < numbered to
  pub grown : 1 ≤ r → m + r < numbered to

-- before round m, where the last one gave n: after one that gave nothing the distances are the least
pub record Rounds (B : Tables) (claim : Claims) (x m n : ℕ) (to : List ℕ) : Type 0 where
  pub round : Round B claim x m 0 0 to
  pub low : ¬ (n ≡ 0) → m < 128
  pub last : n ≡ 0 → Nearest B claim x to
