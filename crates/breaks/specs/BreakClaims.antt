-- Reductions that break, by claims. Assumes nothing.
use Rattle.std.specs.Prelude.{true, List, ◌⊎◌, ◌≡◌, ℕ, suc, ◌+◌, ◌<◌, drop}
use Rattle.book.specs.Tables.{Tables}
use Rattle.walk.specs.Scale.{Scale}
use Rattle.walk.specs.Claims.{Claims, Claimed, Least, OnwardTo}
use Rattle.walk.specs.Ends.{bare}

-- state q has no goto under the left side of p, and with c next as many transitions as p is long lead from it to s with z next, at the cost v
abbrev pub Lacking : Scale → Tables → Claims → ℕ → ℕ → ℕ → ℕ → ℕ → ℕ → Type 0
Lacking σ B claim p s z q c v = (B.goto q (B.lhs p) ≡ 0) × Claimed σ B claim q c v z (B.len p) s

-- the reduction of p in s under z breaks by states that are all pushed on the way: a claimed walk leads to such a state
abbrev pub ClaimedFar : Scale → Tables → Claims → ℕ → ℕ → ℕ → ℕ → ℕ → ℕ → Type 0
ClaimedFar σ B claim p s z = OnwardTo σ B claim (Lacking σ B claim p s z)

-- fewer than n transitions lead from the start to s with z next
abbrev pub ClaimedShort : Scale → Tables → Claims → ℕ → ℕ → ℕ → ℕ → Type 0
ClaimedShort σ B claim n s z v = (a m : ℕ) × (m < n) × Claimed σ B claim 0 a v z m s

-- what is claimed to break from the start: either of the two
abbrev pub BreakArrival : Scale → Tables → Claims → ℕ → ℕ → ℕ → ℕ → Type 0
BreakArrival σ B claim p s z v = ((a : ℕ) × ClaimedFar σ B claim p s z 0 a v) ⊎ ClaimedShort σ B claim (B.len p) s z v

-- L is the layer of m transitions to (s, z): the least cost from each state and first terminal
abbrev pub LayerTo : Scale → Tables → Claims → ℕ → ℕ → ℕ → (ℕ → ℕ → ℕ) → Type 0
LayerTo σ B claim s z m L = (q a : ℕ) → q < B.states → a < B.terminals → Least σ (λ v. Claimed σ B claim q a v z m s) (L q a)

-- the costs to go to a break of p in s under z: G by states pushed on the way, and in L the layers of fewer transitions than p is long
pub record ToBreak (σ : Scale) (B : Tables) (claim : Claims) (p s z : ℕ) (G : ℕ → ℕ → ℕ) (L : ℕ → ℕ → ℕ → ℕ) : Type 0 where
  pub far : (q a : ℕ) → q < B.states → a < B.terminals → Least σ (ClaimedFar σ B claim p s z q a) (G q a)
  pub near : (m : ℕ) → m < B.len p → LayerTo σ B claim s z m (L m)

-- `BreaksOn` by claims
pub data ClaimedBreak (σ : Scale) (B : Tables) (claim : Claims) (p s z q : ℕ) (st : List ℕ) (a v n : ℕ) : Type 0 where
  claimed-far : ClaimedFar σ B claim p s z q a v → ClaimedBreak σ B claim p s z q st a v n
  claimed-near : (k : ℕ) → Claimed σ B claim q a v z n s → B.len p ≡ n + suc k → bare B (B.lhs p) (drop k st) ≡ true → ClaimedBreak σ B claim p s z q st a v n
