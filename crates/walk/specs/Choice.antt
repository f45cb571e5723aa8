-- A sentence chosen symbol by symbol: what is chosen, and what the words that begin with it go on with. Assumes nothing.
use Rattle.std.specs.Prelude.{List, [], ◌∷◌, ◌++◌, ◌⊎◌, ◌↔◌, ◌≡◌, ℕ, ◌+◌, ◌≤◌, ◌<◌}
use Rattle.book.specs.Tables.{Tables}
use Rattle.machine.specs.Machine.{Steps}
use Rattle.walk.specs.Scale.{Scale}
use Rattle.walk.specs.Cost.{cost}
use Rattle.walk.specs.Order.{Earlier}
use Rattle.walk.specs.Claims.{Claims, Completes}
use Rattle.walk.specs.Walk.{Gets, Lands}
use Rattle.walk.specs.ShiftLaws.{Ready}

-- u begins a cheapest word of P, with the cost r still to come, and every cheapest word that begins otherwise is later
pub record Chosen (σ : Scale) (rank : ℕ → ℕ) (P : List ℕ → Type 0) (u : List ℕ) (r : ℕ) : Type 0 where
  pub goes_on : (v : List ℕ) × (cost σ v ≡ r) × P (u ++ v)
  pub cheapest : (w : List ℕ) → P w → cost σ u + r ≤ cost σ w
  pub earliest : (w : List ℕ) → P w → cost σ w ≡ cost σ u + r → ((v : List ℕ) × (w ≡ u ++ v)) ⊎ ((v : List ℕ) → cost σ v ≡ r → Earlier rank (u ++ v) w)

-- the machine that began with one stack has another once it has taken in u, whatever follows
abbrev pub AfterFrom : Tables → List ℕ → List ℕ → List ℕ → Type 0
AfterFrom B begun u st = (rest : List ℕ) → Steps B begun (u ++ rest) st rest

abbrev pub After : Tables → List ℕ → List ℕ → Type 0
After B = AfterFrom B (0 ∷ [])

-- where the machine has the stack st after u, G x v says how the words of P that begin with u go on: with v, of which x is the first symbol, or with
-- nothing, where x comes next. A symbol that they go on with is shifted
pub record Onwards (B : Tables) (P : List ℕ → Type 0) (u st : List ℕ) (G : ℕ → List ℕ → Type 0) : Type 0 where
  pub on : (x : ℕ) (v : List ℕ) → P (u ++ (x ∷ v)) ↔ G x (x ∷ v)
  pub ends : (x : ℕ) → G x [] → P u
  pub starts : (x y : ℕ) (v : List ℕ) → G x (y ∷ v) → y ≡ x
  pub ready : (x : ℕ) (v : List ℕ) → G x (x ∷ v) → Ready B st x

-- some word of at most the cost r goes on with x
pub record WithinOf (σ : Scale) (G : ℕ → List ℕ → Type 0) (x r : ℕ) : Type 0 where
  pub word : List ℕ
  pub short : cost σ word ≤ r
  pub gets : G x word

-- .. and brings s on top of the stack with z next
abbrev pub Within : Scale → Tables → ℕ → ℕ → List ℕ → ℕ → ℕ → Type 0
Within σ B s z st = WithinOf σ (Gets B s z st)

-- from the stack, fed w then z, the machine comes with w taken in and z not to one of which Goal holds, of its top and what is below
abbrev pub Brings : Tables → ℕ → (ℕ → List ℕ → Type 0) → List ℕ → List ℕ → Type 0
Brings B z Goal st w = (s : ℕ) × (below : List ℕ) × Goal s below × Steps B st (w ++ (z ∷ [])) (s ∷ below) (z ∷ [])

-- .. as `Lands` has it, where a is the first terminal of w z
abbrev pub LandsIn : Tables → ℕ → (ℕ → List ℕ → Type 0) → List ℕ → ℕ → List ℕ → Type 0
LandsIn B z Goal st a w = (s : ℕ) × (below : List ℕ) × Goal s below × Lands B s z below st a w

-- the costs to go E tell, from every stack, with which symbols a word within a bound comes to the goal
pub record Guides (σ : Scale) (B : Tables) (claim : Claims) (z : ℕ) (Goal : ℕ → List ℕ → Type 0) (E : List ℕ → ℕ → ℕ → ℕ) : Type 0 where
  pub tells : {q x r : ℕ} {st : List ℕ} → q < B.states → x < B.terminals → r ≤ σ.limit
      → ((v : ℕ) × Completes σ B claim E (q ∷ st) x v × (v ≤ r)) ↔ WithinOf σ (LandsIn B z Goal (q ∷ st)) x r
