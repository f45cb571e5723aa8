-- Passes over a table of distances: each entry stays attained, and a pass that lowers none has shown what it set out to show. Assumes nothing.
use Rattle.std.specs.Prelude.{List, ◌⊎◌, ◌≡◌, ℕ, suc, ◌+◌, ◌≤◌, ◌<◌, length, get_or}
use Rattle.book.specs.Tables.{Tables}
use Rattle.book.specs.declared.Action.TheVariants.{Shift}
use Rattle.book.specs.declared.Sizes.{Sizes}
use Rattle.walk.specs.Scale.{Scale, unreached}
use Rattle.walk.specs.Claims.{Claims, Arrival, OnwardTo, Weighs}
use Rattle.walk.specs.Layers.{Sooner}
use Rattle.walk.specs.Sum.{shift_cost, plus}
use Rattle.layers.specs.Layer.{entry_in}
use Rattle.layers.specs.Step.{TableStep, Upto}
use Rattle.crossings.specs.Falling.{Fallen}
use Rattle.distances.specs.Distances.{distance_in, Bounded}

-- entries are lowered to candidates in P
pub record Merged (σ : Scale) (P : ℕ → ℕ → ℕ → Type 0) (n : ℕ) (old new : List ℕ) : Type 0 where
  pub size : length new ≡ 4096
  pub step : TableStep σ P (entry_in old) (entry_in new)
  pub fallen : Fallen n old new

-- turn z over row q of a layer: its cost there
abbrev pub Offer : (ℕ → ℕ → ℕ) → ℕ → ℕ → ℕ → ℕ → ℕ → Type 0
Offer L q j q' z w = (q' ≡ q) × (z ≡ j) × (w ≡ L q j)

-- what a loop of such passes keeps of the distances from the start
pub record Arrived (σ : Scale) (B : Tables) (claim : Claims) (dist : List ℕ) : Type 0 where
  pub size : length dist ≡ 4096
  pub start : (z : ℕ) → z < B.terminals → distance_in σ dist 0 z ≤ 0
  pub most : (q z : ℕ) → z < B.terminals → distance_in σ dist q z ≤ unreached σ
  pub attained : (q z : ℕ) → z < B.terminals → (distance_in σ dist q z ≡ unreached σ) ⊎ Arrival σ B claim q z (distance_in σ dist q z)

-- a state whose flag is off has no distance below unreached
pub record Marked (σ : Scale) (t : ℕ) (flags dist : List ℕ) : Type 0 where
  pub count : length flags ≡ 128
  pub off : (q z : ℕ) → z < t → get_or flags q 0 ≡ 0 → distance_in σ dist q z ≡ unreached σ

-- distances to goals only fall, to what walks cost together with the old ones
pub record Drawn (σ : Scale) (B : Tables) (claim : Claims) (old new : List ℕ) : Type 0 where
  pub bounded : Bounded σ B.terminals new
  pub fall : (q a : ℕ) → a < B.terminals → distance_in σ new q a ≤ distance_in σ old q a
  pub drawn : (q a : ℕ) → a < B.terminals → (distance_in σ new q a ≡ unreached σ) ⊎ OnwardTo σ B claim (Weighs (distance_in σ old)) q a (distance_in σ new q a)

-- r is the least of v and those of the candidates in P that are below unreached
abbrev pub Lessened : Scale → (ℕ → Type 0) → ℕ → ℕ → Type 0
Lessened σ P v r = TableStep σ (λ q z w. P w) (λ q z. v) (λ q z. r)

-- .. in the turns below i
abbrev pub LessenedUpto : Scale → (ℕ → ℕ → Type 0) → ℕ → ℕ → ℕ → Type 0
LessenedUpto σ P i v r = TableStep σ (Upto (λ j q z w. P j w) i) (λ q z. v) (λ q z. r)

-- turn b over row g: one symbol more, at what it costs, or what a row of the crossing table has for b
abbrev pub PastShift : Scale → ℕ → (ℕ → ℕ → ℕ) → ℕ → ℕ → ℕ → Type 0
PastShift σ one G g b w = w ≡ plus σ one (G g b)

abbrev pub PastGoto : Scale → (ℕ → ℕ → ℕ) → List ℕ → ℕ → ℕ → ℕ → ℕ → Type 0
PastGoto σ G table start g b w = w ≡ plus σ (get_or table (start + b) 0) (G g b)

-- one transition from (q, a) leads to where G has a cost: a shift, the goto under X, any
pub data TowardShift (σ : Scale) (d : Sizes) (B : Tables) (G : ℕ → ℕ → ℕ) (q a : ℕ) : ℕ → Type 0 where
  by-shift : {g : ℕ} (b : ℕ) → B.act q a ≡ Shift g → b < d.t → TowardShift σ d B G q a (plus σ (shift_cost σ a) (G g b))

pub data TowardGoto (σ : Scale) (d : Sizes) (B : Tables) (claim : Claims) (G : ℕ → ℕ → ℕ) (q a X : ℕ) : ℕ → Type 0 where
  by-goto : {g : ℕ} (b : ℕ) → B.goto q X ≡ suc g → b < d.t → TowardGoto σ d B claim G q a X (plus σ (claim q X a b) (G g b))

-- no transition from (q, a) makes less than the distance there
pub record LeastApproach (σ : Scale) (B : Tables) (claim : Claims) (q a : ℕ) (G : ℕ → ℕ → ℕ) : Type 0 where
  pub bound : {v : ℕ} → Sooner σ B claim G q a v → G q a ≤ v
