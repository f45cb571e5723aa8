-- Positions: after how many transitions a walk that leads to a reduction can stand in a state. Assumes nothing.
use Rattle.std.specs.Prelude.{Bool, true, false, List, ◌≡◌, ℕ, suc, ◌+◌, ◌*◌, ◌≤◌, ◌<◌, length, get_or}
use Rattle.book.specs.Tables.{Tables}
use Rattle.book.specs.declared.Action.TheVariants.{Shift, Reduce}
use Rattle.walk.specs.Layers.{Leads}

-- the reductions that a walk of n transitions is to lead to: of a whole production that is as long, or of a longer one
abbrev pub Ends : Bool → ℕ → ℕ → Type 0
Ends true len n = len ≡ n
Ends false len n = n < len

-- r is at least the length of each of the first n productions, and 32 at most
pub record LongestOf (B : Tables) (n r : ℕ) : Type 0 where
  pub bound : (p : ℕ) → p < n → B.len p ≤ r
  pub most : r ≤ 32

-- the flag of state q after n + 1 transitions
abbrev pub position_in : List ℕ → ℕ → ℕ → ℕ
position_in positions n q = get_or positions (n * 128 + q) 0

-- after n + 1 transitions no such walk stands in q: none ends there, and none goes on. By the action under z ..
pub record BarredAction (whole : Bool) (B : Tables) (positions : List ℕ) (n q z : ℕ) : Type 0 where
  pub reduces : (p : ℕ) → B.act q z ≡ Reduce p → ¬ Ends whole (B.len p) (n + 1)
  pub shifts : (g : ℕ) → B.act q z ≡ Shift g → position_in positions (n + 1) g ≡ 0

-- .. by the goto under X ..
pub record BarredGoto (B : Tables) (positions : List ℕ) (n q X : ℕ) : Type 0 where
  pub gotos : (g : ℕ) → B.goto q X ≡ suc g → position_in positions (n + 1) g ≡ 0

-- .. and by any
pub record Barred (whole : Bool) (B : Tables) (positions : List ℕ) (n q : ℕ) : Type 0 where
  pub reduces : (z p : ℕ) → B.act q z ≡ Reduce p → ¬ Ends whole (B.len p) (n + 1)
  pub leads : (g : ℕ) → Leads B q g → position_in positions (n + 1) g ≡ 0

-- from cell k on, a flag is 0 only where that holds
pub record Positions (whole : Bool) (B : Tables) (k : ℕ) (positions : List ℕ) : Type 0 where
  pub size : length positions ≡ 4096
  pub barred : (n q : ℕ) → n < 32 → q < B.states → k ≤ n * 128 + q → position_in positions n q ≡ 0 → Barred whole B positions n q

-- what a layer of n transitions is wanted for: every state of the first, and those whose flag is set
pub record PositionPassed (positions : List ℕ) (n q : ℕ) : Type 0 where
  pub on : (k : ℕ) → n ≡ k + 1 → ¬ (position_in positions k q ≡ 0)
