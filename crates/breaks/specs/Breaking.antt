-- Words with which a reduction breaks, from a state and from any stack. Assumes nothing.
use Rattle.std.specs.Prelude.{true, List, ◌≡◌, ℕ, suc, ◌+◌, ◌<◌, drop}
use Rattle.book.specs.Tables.{Tables}
use Rattle.walk.specs.Walk.{Walk, WalksTo, first, Descends}
use Rattle.walk.specs.Ends.{bare}

-- state q has no goto under the left side of p, and with c next as many transitions as p is long lead from it to s with z next by taking in u
abbrev pub Lacks : Tables → ℕ → ℕ → ℕ → ℕ → ℕ → List ℕ → Type 0
Lacks B p s z q c u = (B.goto q (B.lhs p) ≡ 0) × Walk B q c u z (B.len p) s

-- the reduction of p in s under z breaks by states that are all pushed on the way: a walk leads to such a state
abbrev pub Far : Tables → ℕ → ℕ → ℕ → ℕ → ℕ → List ℕ → Type 0
Far B p s z = WalksTo B (Lacks B p s z)

-- fewer transitions than p is long lead from the start to s with z next
abbrev pub Short : Tables → ℕ → ℕ → ℕ → List ℕ → Type 0
Short B p s z w = (n : ℕ) × (n < B.len p) × Walk B 0 (first w z) w z n s

-- how the reduction of p in s under z breaks over a stack: far, with any number of states pushed; or near, by taking off the n states pushed on
-- the way, the top and k states below it, where the state then on top has no goto or none is left
pub data BreaksOn (B : Tables) (p s z q : ℕ) (st : List ℕ) (a : ℕ) (w : List ℕ) (n : ℕ) : Type 0 where
  far : Far B p s z q a w → BreaksOn B p s z q st a w n
  near : (k : ℕ) → Walk B q a w z n s → B.len p ≡ n + suc k → bare B (B.lhs p) (drop k st) ≡ true → BreaksOn B p s z q st a w n

-- the machine started on the stack comes with w taken in and z not to a reduction of p in s that breaks
abbrev pub GetsBreak : Tables → ℕ → ℕ → ℕ → List ℕ → ℕ → List ℕ → Type 0
GetsBreak B p s z = Descends B (BreaksOn B p s z)
