-- Crossings of gotos, and transitions in a row at claimed costs: a road. Assumes nothing.
use Rattle.std.specs.Prelude.{List, ◌≡◌, ℕ, suc, ◌<◌}
use Rattle.book.specs.{Tables.Tables, declared.Action.Action}
use Rattle.walk.specs.Scale.{Scale}
use Rattle.walk.specs.Sum.{plus, shift_cost}
use Rattle.walk.specs.Walk.{Walk}

-- w crosses from state q under the nonterminal X, the goto there or none, where z follows and a is the first terminal of w z: a walk of the
-- length of a production of X, to a state that reduces it under z
pub record Crosses (B : Tables) (q X a z : ℕ) (w : List ℕ) : Type 0 where
  pub production : ℕ
  pub last : ℕ
  pub walk : Walk B q a w z (B.len production) last
  pub action : B.act last z ≡ Action.Reduce production
  pub left : B.lhs production ≡ X

-- a table of claims: what the cheapest crossing of (q, X, a, z) costs
abbrev pub Claims : Type 0
Claims = ℕ → ℕ → ℕ → ℕ → ℕ

-- Claimed σ B claim q a v z n q': n transitions lead from q to q' at the cost v, where z is the next terminal and a the first. A shift costs
-- what its terminal does, and any terminal may follow it; a goto costs its claim for the terminals before and after it
pub data Claimed (σ : Scale) (B : Tables) (claim : Claims) : ℕ → ℕ → ℕ → ℕ → ℕ → ℕ → Type 0 where
  none : {q z : ℕ} → z < B.terminals → Claimed σ B claim q z 0 z 0 q
  shifting : {q a v t n q₁ q₂ : ℕ} (z : ℕ) → Claimed σ B claim q a v t n q₁ → B.act q₁ t ≡ Action.Shift q₂ → z < B.terminals
      → Claimed σ B claim q a (plus σ v (shift_cost σ t)) z (suc n) q₂
  crossing : {q a v b n q₁ q₂ : ℕ} (X z : ℕ) → Claimed σ B claim q a v b n q₁ → B.goto q₁ X ≡ suc q₂ → z < B.terminals
      → Claimed σ B claim q a (plus σ v (claim q₁ X b z)) z (suc n) q₂

-- L has a cost for each state and next terminal; Longer σ B claim L q z v: from there one transition more leads to (q, z), at the cost v
pub data Longer (σ : Scale) (B : Tables) (claim : Claims) (L : ℕ → ℕ → ℕ) : ℕ → ℕ → ℕ → Type 0 where
  add-shift : {q₁ t q₂ : ℕ} (z : ℕ) → t < B.terminals → B.act q₁ t ≡ Action.Shift q₂ → z < B.terminals → Longer σ B claim L q₂ z (plus σ (L q₁ t) (shift_cost σ t))
  add-goto : {q₁ q₂ : ℕ} (X b z : ℕ) → b < B.terminals → B.goto q₁ X ≡ suc q₂ → z < B.terminals
      → Longer σ B claim L q₂ z (plus σ (L q₁ b) (claim q₁ X b z))
