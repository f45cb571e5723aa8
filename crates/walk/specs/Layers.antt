-- Tables of costs by state and terminal over the claims: layers, distances from the start, costs to go to pairs with weights. Assumes nothing.
use Rattle.std.specs.Prelude.{◌⊎◌, ◌≡◌, ℕ, suc, ◌≤◌, ◌<◌}
use Rattle.book.specs.Tables.{Tables}
use Rattle.book.specs.declared.Action.TheVariants.{Shift}
use Rattle.walk.specs.Scale.{Scale, unreached}
pub use Rattle.walk.specs.Road.{Longer, add-shift, add-goto}
use Rattle.walk.specs.Claims.{Claims, Claimed, Least, LeastWhere, Arrival, OnwardTo, Weighs}
use Rattle.walk.specs.Sum.{shift_cost, plus, cut}

-- `Longer` backwards: one transition from (q, a) leads to where G has a cost
pub data Sooner (σ : Scale) (B : Tables) (claim : Claims) (G : ℕ → ℕ → ℕ) (q a : ℕ) : ℕ → Type 0 where
  from-shift : {q₁ : ℕ} (b : ℕ) → B.act q a ≡ Shift q₁ → b < B.terminals → Sooner σ B claim G q a (plus σ (shift_cost σ a) (G q₁ b))
  from-goto : {q₁ : ℕ} (X b : ℕ) → B.goto q X ≡ suc q₁ → b < B.terminals → Sooner σ B claim G q a (plus σ (claim q X a b) (G q₁ b))

-- L is the layer of n transitions from (q, a): the least cost to stand at each state and next terminal
abbrev pub Layer : Scale → Tables → Claims → ℕ → ℕ → ℕ → (ℕ → ℕ → ℕ) → Type 0
Layer σ B claim q a n L = (q' z : ℕ) → z < B.terminals → Least σ (λ v. Claimed σ B claim q a v z n q') (L q' z)

-- .. as far as C says, of a number of transitions, a state and a cost
abbrev pub LayerWhere : Scale → Tables → Claims → (ℕ → ℕ → ℕ → Type 0) → ℕ → ℕ → ℕ → (ℕ → ℕ → ℕ) → Type 0
LayerWhere σ B claim C q a n L = (q' z : ℕ) → z < B.terminals → LeastWhere σ (C n q') (λ v. Claimed σ B claim q a v z n q') (L q' z)

-- .. as far as a bound
abbrev pub LayerWithin : Scale → Tables → Claims → ℕ → ℕ → ℕ → ℕ → (ℕ → ℕ → ℕ) → Type 0
LayerWithin σ B claim bound = LayerWhere σ B claim (λ n q x. x ≤ bound)

-- one transition leads from q₁ to q₂
pub data Leads (B : Tables) (q₁ q₂ : ℕ) : Type 0 where
  by-shift : {t : ℕ} → B.act q₁ t ≡ Shift q₂ → Leads B q₁ q₂
  by-goto : {X : ℕ} → B.goto q₁ X ≡ suc q₂ → Leads B q₁ q₂

-- what C holds of, it holds of one transition before
pub record Hereditary (σ : Scale) (B : Tables) (C : ℕ → ℕ → ℕ → Type 0) : Type 0 where
  pub before : {n q₁ q₂ : ℕ} (v w : ℕ) → v ≤ unreached σ → Leads B q₁ q₂ → C (suc n) q₂ (plus σ v w) → C n q₁ v

-- a table of costs, each cut at the bound
abbrev pub cut_at : Scale → ℕ → (ℕ → ℕ → ℕ) → ℕ → ℕ → ℕ
cut_at σ bound L q z = cut σ bound (L q z)

-- what passes over a table of distances from the start end with
pub record FromStart (σ : Scale) (B : Tables) (claim : Claims) (D : ℕ → ℕ → ℕ) : Type 0 where
  pub start : (z : ℕ) → z < B.terminals → D 0 z ≤ 0
  pub closed : (q z v : ℕ) → Longer σ B claim D q z v → D q z ≤ v
  pub attained : (q z : ℕ) → z < B.terminals → (D q z ≡ unreached σ) ⊎ Arrival σ B claim q z (D q z)

-- what passes over a table of costs to go, which begins with the weights, end with
pub record ToGoal (σ : Scale) (B : Tables) (claim : Claims) (weight G : ℕ → ℕ → ℕ) : Type 0 where
  pub goal : (s z : ℕ) → z < B.terminals → G s z ≤ weight s z
  pub closed : (q a v : ℕ) → a < B.terminals → Sooner σ B claim G q a v → G q a ≤ v
  pub attained : (q a : ℕ) → a < B.terminals → (G q a ≡ unreached σ) ⊎ OnwardTo σ B claim (Weighs weight) q a (G q a)
