-- Rows that can be passed over: a flag for each state and terminal. Assumes nothing.
use Rattle.std.specs.Prelude.{List, ◌≡◌, ℕ, suc, ◌+◌, ◌*◌, ◌/◌, ◌%◌, ◌<◌, get_or}
use Rattle.book.specs.Tables.{Tables}
use Rattle.book.specs.declared.Action.TheVariants.{Shift}
use Rattle.book.specs.declared.Sizes.{Sizes}
use Rattle.walk.specs.WalkLaws.{Opens}
use Rattle.walk.specs.Scale.{Scale, unreached}
use Rattle.walk.specs.Claims.{Claims}

-- the flag of (q, a)
abbrev pub row_in : List ℕ → ℕ → ℕ → ℕ
row_in rows q a = get_or rows (q * 32 + a) 0

-- no walk of one transition or more begins at the state and terminal of cell k
pub record Unopened (d : Sizes) (B : Tables) (k : ℕ) : Type 0 where
  pub none : k / 32 < d.s → k % 32 < d.t → ¬ Opens B (k / 32) (k % 32)

-- a flag is 0 only where no walk of one transition or more begins
pub record OpenRows (d : Sizes) (B : Tables) (rows : List ℕ) : Type 0 where
  pub unopened : {q a : ℕ} → q < d.s → a < d.t → row_in rows q a ≡ 0 → ¬ Opens B q a

-- a flag is 0 only where no transition costs less than unreached: no shift, and no goto that the claims say can be crossed
pub record Skips (σ : Scale) (B : Tables) (claim : Claims) (rows : List ℕ) : Type 0 where
  pub shiftless : {q a s : ℕ} → row_in rows q a ≡ 0 → ¬ (B.act q a ≡ Shift s)
  pub unclaimed : {q X a z g : ℕ} → row_in rows q a ≡ 0 → a < B.terminals → z < B.terminals → B.goto q X ≡ suc g → claim q X a z ≡ unreached σ
