-- The terminals at which a state of a layer is left, as three lists. Assumes nothing.
use Rattle.std.specs.Prelude.{List, ◌≡◌, ℕ, ◌+◌, ◌*◌, ◌≤◌, ◌<◌, length, get_or}

-- an entry of the state whose row in the layer begins at `row`: a terminal below i, where its row begins in a nonterminal's part of
-- the crossing table, and its cost in the layer. The cost is within the bound, and the terminal's row is not passed over
pub record Leaving (t bound row : ℕ) (rows from : List ℕ) (i b offset cost : ℕ) : Type 0 where
  pub below : b < i
  pub begins : offset ≡ b * t
  pub read : cost ≡ get_or from (row + b) 0
  pub near : cost ≤ bound
  pub unskipped : ¬ (get_or rows (row + b) 0 ≡ 0)

-- the first n entries are those of all terminals below i of which that can be said
pub record TerminalsListed (t bound row : ℕ) (rows from : List ℕ) (i : ℕ) (terminals offsets costs : List ℕ) (n : ℕ) : Type 0 where
  pub sizes : (length terminals ≡ 32) × (length offsets ≡ 32) × (length costs ≡ 32)
  pub few : n ≤ i
  pub each : (j : ℕ) → j < n → Leaving t bound row rows from i (get_or terminals j 0) (get_or offsets j 0) (get_or costs j 0)
  pub all : (b : ℕ) → b < i → get_or from (row + b) 0 ≤ bound → ¬ (get_or rows (row + b) 0 ≡ 0) → (j : ℕ) × (j < n) × (get_or terminals j 0 ≡ b)
