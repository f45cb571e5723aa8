-- What is known at each depth while the search works down a stack. Assumes nothing.
use Rattle.std.specs.Prelude.{List, ◌⊎◌, ◌≡◌, ℕ, suc, ◌+◌, ◌-◌, ◌≤◌, ◌<◌, get_or, drop}
use Rattle.book.specs.Tables.{Tables}
use Rattle.walk.specs.Scale.{Scale, unreached}
use Rattle.walk.specs.Claims.{Claims}
use Rattle.walk.specs.Sum.{plus}
use Rattle.layers.specs.Layer.{entry_in}
use Rattle.waiting.specs.Completes.{Pops, Stands, Event}
use Rattle.waiting.specs.Waiting.{waiting_in}

-- before depth j is looked at: every pop from above that comes to j or lower is in the table if it is within r, nothing from above completes
-- within r, and the table has nothing else
pub record Progress (σ : Scale) (B : Tables) (claim : Claims) (E : List ℕ → ℕ → ℕ → ℕ) (q : ℕ) (st : List ℕ) (a r j : ℕ) (T : ℕ → ℕ → ℕ) : Type 0 where
  pub below : {i g b u k X c w : ℕ} → i ≤ j → Stands σ B claim q st a i g b u → Pops σ B claim g b u k X c w → w ≤ r → j ≤ i - 1 + k
      → waiting_in T (i - 1 + k) X c ≤ w
  pub missed : {i g b u : ℕ} → i ≤ j → Stands σ B claim q st a i g b u → r < plus σ u (E (drop (i - 1) st) g b)
  pub attained : (d X c : ℕ) → X < 32 → c < 32 → j ≤ d → d < j + 32
      → (waiting_in T d X c ≡ unreached σ) ⊎ (Event σ B claim q st a d X c (waiting_in T d X c) × (waiting_in T d X c ≤ r))

-- while depth j is looked at: `done` has the cost at which the goto under X with c next was last followed; what is popped from there is in
-- the table, and it did not complete within r
pub record Settling (σ : Scale) (B : Tables) (claim : Claims) (E : List ℕ → ℕ → ℕ → ℕ) (q : ℕ) (st : List ℕ) (a r j : ℕ) (T : ℕ → ℕ → ℕ) (done : List ℕ) : Type 0 where
  pub progress : Progress σ B claim E q st a r j T
  pub seen : (X c : ℕ) {g k Y z w : ℕ} → X < B.nonterminals → c < 32 → B.goto (get_or st j 0) X ≡ suc g → entry_in done X c < unreached σ
      → Pops σ B claim g c (entry_in done X c) k Y z w → w ≤ r → waiting_in T (j + k) Y z ≤ w
  pub refused : (X c : ℕ) {g : ℕ} → X < B.nonterminals → c < 32 → B.goto (get_or st j 0) X ≡ suc g → entry_in done X c < unreached σ → r < plus σ (entry_in done X c) (E (drop j st) g c)
