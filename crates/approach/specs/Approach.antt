-- Layers of walks to a pair as arrays hold them, and the weights of a break. Assumes nothing.
use Rattle.std.specs.Prelude.{cond, List, ◌≡◌, ℕ, zero, suc, ◌*◌, ◌/◌, ◌%◌, ◌<◌, eqb, length}
use Rattle.book.specs.Tables.{Tables}
use Rattle.book.specs.declared.Sizes.{Sizes}
use Rattle.walk.specs.Scale.{Scale, unreached}
use Rattle.walk.specs.Claims.{Claims, Least}
use Rattle.walk.specs.Layers.{Sooner}
use Rattle.walk.specs.Fill.{filled}
use Rattle.layers.specs.Layer.{entry_in, layer_in}
use Rattle.distances.specs.Distances.{Bounded}
use Rattle.breaks.specs.BreakClaims.{LayerTo}

-- L' is L with one transition more in front
abbrev pub SoonerLayer : Scale → Tables → Claims → (ℕ → ℕ → ℕ) → (ℕ → ℕ → ℕ) → Type 0
SoonerLayer σ B claim L L' = (q a : ℕ) → q < B.states → a < B.terminals → Least σ (Sooner σ B claim L q a) (L' q a)

-- v is what that has for the state and terminal of cell k
pub record SoonerAt (σ : Scale) (B : Tables) (claim : Claims) (L : ℕ → ℕ → ℕ) (k v : ℕ) : Type 0 where
  pub least : k % 32 < B.terminals → Least σ (Sooner σ B claim L (k / 32) (k % 32)) v

-- `due` has the layers of fewer than m transitions to (s, z), and `layer` is that of m
pub record LayersTo (σ : Scale) (d : Sizes) (B : Tables) (claim : Claims) (s z m : ℕ) (due layer : List ℕ) : Type 0 where
  pub size : length due ≡ 131072
  pub near : (j : ℕ) → j < m → LayerTo σ B claim s z j (layer_in due j)
  pub last : LayerTo σ B claim s z m (entry_in layer)
  pub bounded : Bounded σ d.t layer

-- l, where the row of state q is unreached if the state has a goto under X ..
unfoldable pub without_row : Scale → Tables → ℕ → List ℕ → ℕ → List ℕ
without_row σ B X l q = cond (eqb (B.goto q X) 0) l (filled l (q * 32) 32 (unreached σ))

-- .. and likewise the row of every state below n
unfoldable pub without_rows : Scale → Tables → ℕ → List ℕ → ℕ → List ℕ
without_rows σ B X l zero = l
without_rows σ B X l (suc n) = without_row σ B X (without_rows σ B X l n) n
