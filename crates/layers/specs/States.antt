-- The states of a layer that are on, in 257 cells: how many, then these states one after the other, and from cell 129 on a flag for each
-- state. Assumes nothing.
use Rattle.std.specs.Prelude.{List, ◌≡◌, ℕ, ◌+◌, ◌≤◌, ◌<◌, length, get_or, drop}
use Rattle.layers.specs.Total.{total}

-- the flag of state q
abbrev pub flag_in : List ℕ → ℕ → ℕ
flag_in flags q = get_or flags (129 + q) 0

-- the i-th state of the list
abbrev pub listed_in : List ℕ → ℕ → ℕ
listed_in flags i = get_or flags (1 + i) 0

pub record ListedAt (flags : List ℕ) (q : ℕ) : Type 0 where
  pub index : ℕ
  pub before : index < get_or flags 0 0
  pub same : listed_in flags index ≡ q

-- the states that are on are below s, and they are those of the list
pub record Listed (s : ℕ) (flags : List ℕ) : Type 0 where
  pub size : length flags ≡ 257
  pub bits : (q : ℕ) → flag_in flags q ≤ 1
  pub count : total (drop 129 flags) ≡ get_or flags 0 0
  pub below : (i : ℕ) → i < get_or flags 0 0 → listed_in flags i < s
  pub on : (i : ℕ) → i < get_or flags 0 0 → ¬ (flag_in flags (listed_in flags i) ≡ 0)
  pub every : (q : ℕ) → ¬ (flag_in flags q ≡ 0) → ListedAt flags q

-- every state below s is on
pub record AllOn (s : ℕ) (flags : List ℕ) : Type 0 where
  pub listed : Listed s flags
  pub all : (q : ℕ) → q < s → ¬ (flag_in flags q ≡ 0)
