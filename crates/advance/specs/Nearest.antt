-- How far each state is from a shift of x by transitions that consume nothing. Assumes nothing.
use Rattle.std.specs.Prelude.{List, ◌⊎◌, ◌↔◌, ◌≡◌, ℕ, suc, ◌≤◌, ◌<◌, length, get_or}
use Rattle.book.specs.Tables.{Tables}
use Rattle.book.specs.declared.Action.TheVariants.{Shift}
use Rattle.walk.specs.Claims.{Claims}

-- the mark of a state that no such transitions lead from to a shift
abbrev pub far : ℕ
far = 255

-- the action under x is a shift
abbrev pub Shifts : Tables → ℕ → ℕ → Type 0
Shifts B x q = (s : ℕ) × (B.act q x ≡ Shift s)

-- the goto of q under X consumes nothing with x before and after it, and leads to a state at distance m
pub record LeadsTo (B : Tables) (claim : Claims) (x : ℕ) (to : List ℕ) (q m X : ℕ) : Type 0 where
  pub target : ℕ
  pub transition : B.goto q X ≡ suc target
  pub claimed : claim q X x x ≡ 0
  pub distance : get_or to target 0 ≡ m

-- every distance is right: 0 where x is shifted, and else one more than that of a state that such a goto leads to
pub record SoundDistances (B : Tables) (claim : Claims) (x : ℕ) (to : List ℕ) : Type 0 where
  pub size : length to ≡ 128
  pub shifts : (q : ℕ) → q < B.states → (get_or to q 0 ≡ 0) ↔ Shifts B x q
  pub onward : (q m : ℕ) → q < B.states → get_or to q 0 ≡ suc m → suc m < far → (X : ℕ) × LeadsTo B claim x to q m X
  pub bounded : (q : ℕ) → (get_or to q 0 ≤ 127) ⊎ (get_or to q 0 ≡ far)

-- .. and the least: where such a goto leads to a state with one, there is one, at most one more
pub record Nearest (B : Tables) (claim : Claims) (x : ℕ) (to : List ℕ) : Type 0 where
  pub sound : SoundDistances B claim x to
  pub complete : (q m X : ℕ) → LeadsTo B claim x to q m X → m < far → get_or to q 0 ≤ suc m

-- r is the lowest number below n in P, or n where there is none
pub record Lowest (P : ℕ → Type 0) (n r : ℕ) : Type 0 where
  pub within : r ≤ n
  pub found : r < n → P r
  pub before : (k : ℕ) → k < r → ¬ P k
