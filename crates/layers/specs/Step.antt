-- A table whose entries only fall: what a pass that lowers entries to candidates does to it, and the candidates of a longer layer. Assumes nothing.
use Rattle.std.specs.Prelude.{List, ◌⊎◌, ◌≡◌, ℕ, zero, suc, ◌+◌, ◌≤◌, ◌<◌, min, get_or, set}
use Rattle.book.specs.Tables.{Tables}
use Rattle.book.specs.declared.Action.{Action}
use Rattle.book.specs.declared.Action.TheVariants.{Shift}
use Rattle.book.specs.declared.Sizes.{Sizes}
use Rattle.walk.specs.Scale.{Scale, unreached}
use Rattle.walk.specs.Sum.{plus, shift_cost}
use Rattle.walk.specs.Claims.{Claims}
use Rattle.layers.specs.Layer.{Wanted}
use Rattle.layers.specs.Starts.{crossing_block}

-- `P q z w` says that w is a candidate for the entry (q, z). Each entry of `new` is the least of what it was and its candidates
-- below unreached
pub record TableStep (σ : Scale) (P : ℕ → ℕ → ℕ → Type 0) (old new : ℕ → ℕ → ℕ) : Type 0 where
  pub fall : (q z : ℕ) → z < 32 → new q z ≤ old q z
  pub below : (q z w : ℕ) → P q z w → z < 32 → w < unreached σ → new q z ≤ w
  pub attained : (q z : ℕ) → z < 32 → (new q z ≡ old q z) ⊎ P q z (new q z)

-- the candidates of the turns below i
abbrev pub Upto : (ℕ → ℕ → ℕ → ℕ → Type 0) → ℕ → ℕ → ℕ → ℕ → Type 0
Upto P i q z w = (j : ℕ) × (j < i) × P j q z w

-- turn z of a pass over row g: v, or the sum of v and what another row has for z
abbrev pub Level : ℕ → ℕ → ℕ → ℕ → ℕ → ℕ → Type 0
Level g v j q z w = (q ≡ g) × (z ≡ j) × (w ≡ v)

abbrev pub Relaxed : Scale → ℕ → List ℕ → ℕ → ℕ → ℕ → ℕ → ℕ → ℕ → Type 0
Relaxed σ g row start v j q z w = (q ≡ g) × (z ≡ j) × (w ≡ plus σ v (get_or row (start + j) 0))

-- what `relax` leaves of l: the first t entries of the row that begins at `row` are lowered to these sums
unfoldable pub relaxed : Scale → List ℕ → ℕ → List ℕ → ℕ → ℕ → ℕ → List ℕ
relaxed σ l row table start v zero = l
relaxed σ l row table start v (suc t) =
    let k = relaxed σ l row table start v t in
    set k (row + t) (min (get_or k (row + t) 0) (plus σ v (get_or table (start + t) 0)))

-- to a wanted state: by an action, at the cost v, and by a goto that leads to `target` - 1, at the sums of v and a row of claims
abbrev pub Shifts : Sizes → List ℕ → Action → ℕ → ℕ → ℕ → ℕ → Type 0
Shifts d want x v q z w = (x ≡ Shift q) × (z < d.t) × (w ≡ v) × Wanted want q

abbrev pub Enters : Scale → Sizes → List ℕ → ℕ → List ℕ → ℕ → ℕ → ℕ → ℕ → ℕ → Type 0
Enters σ d want target row start v q z w = (target ≡ suc q) × (z < d.t) × (w ≡ plus σ v (get_or row (start + z) 0)) × Wanted want q

-- from (q₁, b), reached at the cost v: by the shift of b, and by the goto under X
abbrev pub ByShift : Scale → Sizes → List ℕ → Tables → ℕ → ℕ → ℕ → ℕ → ℕ → ℕ → Type 0
ByShift σ d want B q₁ b v = Shifts d want (B.act q₁ b) (plus σ v (shift_cost σ b))

abbrev pub ByGoto : Scale → Sizes → List ℕ → Tables → Claims → ℕ → ℕ → ℕ → ℕ → ℕ → ℕ → ℕ → Type 0
ByGoto σ d want B claim q₁ b v X q z w = (B.goto q₁ X ≡ suc q) × (z < d.t) × (w ≡ plus σ v (claim q₁ X b z)) × Wanted want q

-- from n terminals of q₁, each with its cost: by shifts, by the goto to `target` - 1 and by the gotos under the first of the
-- nonterminals. The row of claims of each terminal stands at its offset
abbrev pub ShiftsBy : Scale → Sizes → List ℕ → Tables → ℕ → List ℕ → List ℕ → ℕ → ℕ → ℕ → ℕ → Type 0
ShiftsBy σ d want B q₁ terminals costs = Upto (λ j. ByShift σ d want B q₁ (get_or terminals j 0) (get_or costs j 0))

abbrev pub RelaxedBy : Scale → ℕ → List ℕ → ℕ → List ℕ → List ℕ → ℕ → ℕ → ℕ → ℕ → ℕ → Type 0
RelaxedBy σ g row start offsets costs t = Upto (λ j. Upto (Relaxed σ g row (start + get_or offsets j 0) (get_or costs j 0)) t)

abbrev pub EntersBy : Scale → Sizes → List ℕ → ℕ → List ℕ → ℕ → List ℕ → List ℕ → ℕ → ℕ → ℕ → ℕ → Type 0
EntersBy σ d want target row start offsets costs = Upto (λ j. Enters σ d want target row (start + get_or offsets j 0) (get_or costs j 0))

abbrev pub GotosBy : Scale → Sizes → List ℕ → Tables → List ℕ → ℕ → List ℕ → List ℕ → ℕ → ℕ → ℕ → ℕ → ℕ → Type 0
GotosBy σ d want B table q₁ offsets costs n = Upto (λ X. EntersBy σ d want (B.goto q₁ X) table (crossing_block d q₁ X) offsets costs n)

-- from (q₁, b), and from every terminal of a state in a layer
abbrev pub Leaves : Scale → Sizes → List ℕ → Tables → Claims → ℕ → ℕ → ℕ → ℕ → ℕ → ℕ → Type 0
Leaves σ d want B claim q₁ b v q z w = ByShift σ d want B q₁ b v q z w ⊎ Upto (ByGoto σ d want B claim q₁ b v) d.n q z w

abbrev pub LeavesState : Scale → Sizes → List ℕ → Tables → Claims → (ℕ → ℕ → ℕ) → ℕ → ℕ → ℕ → ℕ → Type 0
LeavesState σ d want B claim L q₁ = Upto (λ b. Leaves σ d want B claim q₁ b (L q₁ b)) d.t
