-- Claimed walks from many starts at once, to reductions that break for want of something at the start. Assumes nothing.
use Rattle.std.specs.Prelude.{◌≡◌, ℕ, suc, ◌<◌}
use Rattle.book.specs.Tables.{Tables}
use Rattle.book.specs.declared.Action.TheVariants.{Reduce}
use Rattle.walk.specs.Scale.{Scale, unreached}
use Rattle.walk.specs.Sum.{plus}
use Rattle.walk.specs.Claims.{Claims, Claimed, Least, LeastWhere, Arrival}
use Rattle.walk.specs.Layers.{Leads}
use Rattle.breaks.specs.BreakClaims.{ClaimedFar, ClaimedShort}
use Rattle.lengths.specs.declared.Missing.{Missing}
use Rattle.lengths.specs.declared.Missing.TheVariants.{Goto, States}

-- where production p breaks, m transitions from a start, for want of that: of the goto under X, if p is of X and as long as that, and of states
-- to pop, if p is longer
abbrev pub Fails : Missing → Tables → ℕ → ℕ → Type 0
Fails (Goto X) B m p = (B.lhs p ≡ X) × (B.len p ≡ m)
Fails States B m p = m < B.len p

-- .. and s reduces such a production under z
pub record Reduces (missing : Missing) (B : Tables) (m s z : ℕ) : Type 0 where
  pub production : ℕ
  pub action : B.act s z ≡ Reduce production
  pub fails : Fails missing B m production

-- m transitions from a start, more of them lead from q to a reduction to X that pops them all
pub data Ahead (B : Tables) (X : ℕ) : ℕ → ℕ → Type 0 where
  ends : {m q : ℕ} (z : ℕ) → Reduces (Goto X) B m q z → Ahead B X m q
  goes : {m q g : ℕ} → Leads B q g → Ahead B X (suc m) g → Ahead B X m q

-- a claimed walk of n transitions to (s, z) from some pair, at which D has a cost already
pub record Led (σ : Scale) (B : Tables) (claim : Claims) (D : ℕ → ℕ → ℕ) (n s z v : ℕ) : Type 0 where
  pub state : ℕ
  pub first : ℕ
  pub after : ℕ
  pub walk : Claimed σ B claim state first after z n s
  pub sum : v ≡ plus σ (D state first) after

-- L is the layer of n transitions from there
abbrev pub LayerFrom : Scale → Tables → Claims → (ℕ → ℕ → ℕ) → ℕ → (ℕ → ℕ → ℕ) → Type 0
LayerFrom σ B claim D n L = (s z : ℕ) → z < B.terminals → Least σ (Led σ B claim D n s z) (L s z)

-- D has the distance from the bottom at each pair whose state has no goto under X, as far as such a reduction is ahead of it
abbrev pub LackingStarts : Scale → Tables → Claims → ℕ → (ℕ → ℕ → ℕ) → Type 0
LackingStarts σ B claim X D =
    (q a : ℕ) → a < B.terminals → LeastWhere σ (λ v. Ahead B X 0 q) (λ v. (B.goto q X ≡ 0) × Arrival σ B claim q a v) (D q a)

-- D has 0 at state 0, and unreached elsewhere
abbrev pub BottomStarts : Scale → ℕ → (ℕ → ℕ → ℕ) → Type 0
BottomStarts σ t D = (q a : ℕ) → a < t → Least σ (λ v. (q ≡ 0) × (v ≡ 0)) (D q a)

-- what m transitions from such starts make of the table of breaks: at a pair with such a reduction, the cost to be led there
abbrev pub Ending : Scale → Tables → Claims → Missing → (ℕ → ℕ → ℕ) → ℕ → ℕ → ℕ → ℕ → Type 0
Ending σ B claim missing D m s z w = Reduces missing B m s z × Led σ B claim D m s z w × (w < unreached σ)

-- what is claimed to break: a reduction to X by states that are all pushed on the way, and one of more states than are stacked
abbrev pub FarBreak : Scale → Tables → Claims → ℕ → ℕ → ℕ → ℕ → Type 0
FarBreak σ B claim X s z w = (p : ℕ) × (B.act s z ≡ Reduce p) × (B.lhs p ≡ X) × ((a : ℕ) × ClaimedFar σ B claim p s z 0 a w)

abbrev pub ShortBreak : Scale → Tables → Claims → ℕ → ℕ → ℕ → Type 0
ShortBreak σ B claim s z w = (p : ℕ) × (B.act s z ≡ Reduce p) × ClaimedShort σ B claim (B.len p) s z w
