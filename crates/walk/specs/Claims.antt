-- Crossings of gotos, tables of claims about their costs, and when such a table is right. Assumes nothing.
use Rattle.std.specs.Prelude.{List, ◌∷◌, ◌⊎◌, ◌≡◌, ℕ, suc, ◌+◌, ◌≤◌, ◌<◌, drop}
use Rattle.book.specs.Tables.{Tables}
use Rattle.book.specs.declared.Action.TheVariants.{Reduce}
pub use Rattle.walk.specs.Road.{Crosses, Claims, Claimed, none, shifting, crossing}
use Rattle.walk.specs.Scale.{Scale, unreached, cap}
use Rattle.walk.specs.Cost.{cost, Attained}
use Rattle.walk.specs.Sum.{plus}

-- `Descends` by claims: an end from the stack, or a claimed walk to a reduction that pops the stack below the top, and then from the smaller stack
pub data ClaimedDescends (σ : Scale) (B : Tables) (claim : Claims) (End : ℕ → List ℕ → ℕ → ℕ → ℕ → Type 0) : List ℕ → ℕ → ℕ → Type 0 where
  arriving : {q a v n : ℕ} {st : List ℕ} → End q st a v n → ClaimedDescends σ B claim End (q ∷ st) a v
  popping : {q a v b x n q₁ p q₂ g : ℕ} {st st₂ : List ℕ} (k : ℕ) → Claimed σ B claim q a v b n q₁ → B.act q₁ b ≡ Reduce p → B.len p ≡ n + suc k
      → drop k st ≡ q₂ ∷ st₂ → B.goto q₂ (B.lhs p) ≡ suc g → ClaimedDescends σ B claim End (g ∷ q₂ ∷ st₂) b x → ClaimedDescends σ B claim End (q ∷ st) a (plus σ v x)

-- .. to bring s on top with z next
abbrev pub ClaimedGets : Scale → Tables → Claims → ℕ → ℕ → List ℕ → ℕ → ℕ → Type 0
ClaimedGets σ B claim s z = ClaimedDescends σ B claim (λ q st a v n. Claimed σ B claim q a v z n s)

-- .. one of a set of goals (s, z)
abbrev pub ClaimedGetsTo : Scale → Tables → Claims → (ℕ → ℕ → Type 0) → List ℕ → ℕ → ℕ → Type 0
ClaimedGetsTo σ B claim Goal = ClaimedDescends σ B claim (λ q st a v n. (s z : ℕ) × Goal s z × Claimed σ B claim q a v z n s)

-- .. to what E has as the cost to go, of what is left of the stack, the state on top and the first terminal
abbrev pub Completes : Scale → Tables → Claims → (List ℕ → ℕ → ℕ → ℕ) → List ℕ → ℕ → ℕ → Type 0
Completes σ B claim E = ClaimedDescends σ B claim (λ q st a v n. v ≡ E st q a)

-- no claim is more than what the claims make of a production for it
pub record Closed (σ : Scale) (B : Tables) (claim : Claims) : Type 0 where
  pub bound : {q a v z p q₂ g : ℕ} → Claimed σ B claim q a v z (B.len p) q₂ → B.act q₂ z ≡ Reduce p → B.goto q (B.lhs p) ≡ suc g
      → claim q (B.lhs p) a z ≤ v

-- every claim that is not unreached is what some crossing costs
pub record Witnessed (σ : Scale) (B : Tables) (claim : Claims) : Type 0 where
  pub witness : (q X a z : ℕ) {g : ℕ} → a < B.terminals → z < B.terminals → B.goto q X ≡ suc g → Attained σ (Crosses B q X a z) (claim q X a z)

-- v is the least of the costs in P, or unreached
pub record Least (σ : Scale) (P : ℕ → Type 0) (v : ℕ) : Type 0 where
  pub below : (x : ℕ) → P x → v ≤ x
  pub attained : (v ≡ unreached σ) ⊎ P v

-- v is that as far as C says: no cost in P of which C holds is less
pub record LeastWhere (σ : Scale) (C P : ℕ → Type 0) (v : ℕ) : Type 0 where
  pub below : (x : ℕ) → P x → C x → v ≤ x
  pub attained : (v ≡ unreached σ) ⊎ P v

-- the claimed costs K stand for the words P: no word costs less than some claimed cost, and every claimed cost is what a word costs, or unreached
pub record Matches (σ : Scale) (K : ℕ → Type 0) (P : List ℕ → Type 0) : Type 0 where
  pub below : (w : List ℕ) → P w → (v : ℕ) × K v × (v ≤ cap σ (cost σ w))
  pub above : (v : ℕ) → K v → Attained σ P v

-- up to the bound r the ends J, as a table has them, serve for the ends K: none of K is less than all of J, and what J has is in K
pub record Serves (B : Tables) (r : ℕ) (J K : ℕ → List ℕ → ℕ → ℕ → ℕ → Type 0) : Type 0 where
  pub lower : {q a v n : ℕ} {st : List ℕ} → q < B.states → a < B.terminals → v ≤ r → K q st a v n → (x m : ℕ) × J q st a x m × (x ≤ v)
  pub within : {q a v n : ℕ} {st : List ℕ} → q < B.states → a < B.terminals → v ≤ r → J q st a v n → (m : ℕ) × K q st a v m

-- a claimed walk from the start to state s with z next, of any number of transitions
abbrev pub Arrival : Scale → Tables → Claims → ℕ → ℕ → ℕ → Type 0
Arrival σ B claim s z v = (a n : ℕ) × Claimed σ B claim 0 a v z n s

-- a claimed walk from q with first terminal a to some pair (s, z), and then what is to be done from there, at a cost in K s z
pub record OnwardTo (σ : Scale) (B : Tables) (claim : Claims) (K : ℕ → ℕ → ℕ → Type 0) (q a v : ℕ) : Type 0 where
  pub count : ℕ
  pub state : ℕ
  pub next : ℕ
  pub before : ℕ
  pub after : ℕ
  pub walk : Claimed σ B claim q a before next count state
  pub done : K state next after
  pub sum : v ≡ plus σ before after

-- .. at the cost that a table of weights has, unreached for no goal
abbrev pub Weighs : (ℕ → ℕ → ℕ) → ℕ → ℕ → ℕ → Type 0
Weighs weight s z y = y ≡ weight s z

-- .. where at one of the goal pairs nothing is left to do
abbrev pub Onward : Scale → Tables → Claims → (ℕ → ℕ → Type 0) → ℕ → ℕ → ℕ → Type 0
Onward σ B claim Goal = OnwardTo σ B claim (λ s z y. Goal s z × (y ≡ 0))
