-- The gotos that wait while the search works down a stack: the table of their costs, and what is put into it. Assumes nothing.
use Rattle.std.specs.Prelude.{cond, List, ◌≡◌, ℕ, ◌+◌, ◌-◌, ◌*◌, ◌/◌, ◌%◌, ◌≤◌, ◌<◌, eqb, get_or}
use Rattle.book.specs.Tables.{Tables}
use Rattle.book.specs.TablesLaws.{InRange}
use Rattle.book.specs.declared.Action.TheVariants.{Reduce}
use Rattle.book.specs.declared.Sizes.{Sizes}
use Rattle.walk.specs.Scale.{Scale, unreached}
use Rattle.walk.specs.Claims.{Claims}
use Rattle.walk.specs.Sum.{plus}
use Rattle.layers.specs.Layer.{entry_in}
use Rattle.layers.specs.Step.{Upto}
use Rattle.waiting.specs.Completes.{Pops}

-- a row and a column of the table fit every production and terminal
pub record Narrow (B : Tables) : Type 0 where
  pub range : InRange B
  pub terminals : B.terminals ≤ 32
  pub nonterminals : B.nonterminals ≤ 32

-- a production pops at most 32 states, so 32 rows of 32 × 32 costs are enough: depth d has the rows of d % 32, one for each nonterminal
abbrev pub row_of : ℕ → ℕ → ℕ
row_of d X = d % 32 * 32 + X

unfoldable pub waiting_in : (ℕ → ℕ → ℕ) → ℕ → ℕ → ℕ → ℕ
waiting_in T d X c = T (row_of d X) c

-- such a table lies in one array: the costs, from cell 32768 on a flag for each row and from cell 33792 on one for each depth; a row is on if
-- both its flags are
abbrev pub depth_in : List ℕ → ℕ → ℕ
depth_in events k = get_or events (33792 + k) 0

unfoldable pub row_on : List ℕ → ℕ → ℕ
row_on events row = cond (eqb (depth_in events (row / 32)) 0) 0 (get_or events (32768 + row) 0)

-- a row that is off is unreached
unfoldable pub event_in : Scale → List ℕ → ℕ → ℕ → ℕ
event_in σ events row c = cond (eqb (row_on events row) 0) (unreached σ) (entry_in events row c)

-- cell i of the rows of `at`: the nonterminal i / 32 and the terminal i % 32
abbrev pub cell_in : (ℕ → ℕ → ℕ) → ℕ → ℕ → ℕ
cell_in T at i = T (at * 32 + i / 32) (i % 32)

-- depth k is on, and the table is as it was
pub record DepthOn (σ : Scale) (k : ℕ) (events events' : List ℕ) : Type 0 where
  pub on : ¬ (depth_in events' k ≡ 0)
  pub same : (row c : ℕ) → c < 32 → event_in σ events' row c ≡ event_in σ events row c

-- a row is on, and the table is as it was
pub record RowOn (σ : Scale) (row : ℕ) (events events' : List ℕ) : Type 0 where
  pub on : ¬ (row_on events' row ≡ 0)
  pub same : (row' c : ℕ) → c < 32 → event_in σ events' row' c ≡ event_in σ events row' c

-- the rows of `at` are unreached from now on, and the others as they were
pub record Dropped (σ : Scale) (at : ℕ) (T T' : ℕ → ℕ → ℕ) : Type 0 where
  pub gone : (row c : ℕ) → c < 32 → row / 32 ≡ at → T' row c ≡ unreached σ
  pub rest : (row c : ℕ) → c < 32 → ¬ (row / 32 ≡ at) → T' row c ≡ T row c

-- candidates for the table: what the machine pops from g under b, at the cost u, over what is left below the first d states, within r
abbrev pub Expands : Scale → Tables → Claims → ℕ → ℕ → ℕ → ℕ → ℕ → ℕ → ℕ → ℕ → Type 0
Expands σ B claim d g b u r row c w = (k X : ℕ) × (row ≡ row_of (d + k) X) × Pops σ B claim g b u k X c w × (w ≤ r)

-- ---- what one function after the other puts into the table
-- w at the row and the column c
abbrev pub Lowered : ℕ → ℕ → ℕ → ℕ → ℕ → ℕ → Type 0
Lowered row c w row' c' w' = (row' ≡ row) × (c' ≡ c) × (w' ≡ w)

-- production p reduced under c at the cost w, after m transitions
abbrev pub Popped : Tables → ℕ → ℕ → ℕ → ℕ → ℕ → ℕ → ℕ → ℕ → Type 0
Popped B d m p c w row c' w' = (m < B.len p) × (row ≡ row_of (d + (B.len p - m - 1)) (B.lhs p)) × (c' ≡ c) × (w' ≡ w)

-- the reduction in (q, c), if the cost is within r
abbrev pub Reduces : Tables → ℕ → ℕ → ℕ → ℕ → ℕ → ℕ → ℕ → ℕ → ℕ → Type 0
Reduces B d m r q c w row c' w' = (w ≤ r) × ((p : ℕ) × (B.act q c ≡ Reduce p) × Popped B d m p c w row c' w')

-- the reductions in a state, and in all states, of the layer L of m transitions, where v was the cost before it
abbrev pub ReducesState : Scale → Sizes → Tables → ℕ → ℕ → ℕ → ℕ → (ℕ → ℕ → ℕ) → ℕ → ℕ → ℕ → ℕ → Type 0
ReducesState σ s B d m r v L q = Upto (λ c. Reduces B d m r q c (plus σ v (L q c))) s.t

abbrev pub ReducesLayer : Scale → Sizes → Tables → ℕ → ℕ → ℕ → ℕ → (ℕ → ℕ → ℕ) → ℕ → ℕ → ℕ → Type 0
ReducesLayer σ s B d m r v L = Upto (ReducesState σ s B d m r v L) s.s

-- what is popped after m transitions
abbrev pub ExpandsAfter : Scale → Tables → Claims → ℕ → ℕ → ℕ → ℕ → ℕ → ℕ → ℕ → ℕ → ℕ → Type 0
ExpandsAfter σ B claim d g b u r m row c w = (k X : ℕ) × (row ≡ row_of (d + k) X) × ((p : Pops σ B claim g b u k X c w) × (p.count ≡ m)) × (w ≤ r)

-- .. after m transitions or more
abbrev pub ExpandsFrom : Scale → Tables → Claims → ℕ → ℕ → ℕ → ℕ → ℕ → ℕ → ℕ → ℕ → ℕ → Type 0
ExpandsFrom σ B claim d g b u r m row c w = (k X : ℕ) × (row ≡ row_of (d + k) X) × ((p : Pops σ B claim g b u k X c w) × (m ≤ p.count)) × (w ≤ r)

-- a cost that is within r after v is within n
pub record Allows (σ : Scale) (r v n : ℕ) : Type 0 where
  pub bound : (x : ℕ) → plus σ v x ≤ r → x ≤ n
