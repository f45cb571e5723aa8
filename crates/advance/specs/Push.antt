-- What is pushed on the machine's stack so that x is shifted. Assumes nothing.
use Rattle.std.specs.Prelude.{List, ◌∷◌, reverse, ◌≡◌, ℕ, suc, ◌+◌, ◌-◌, ◌≤◌, ◌<◌, length, get_or, take, drop}
use Rattle.book.specs.Tables.{Tables}
use Rattle.machine.specs.Machine.{Step, Steps}
use Rattle.walk.specs.Claims.{Claims}
use Rattle.advance.specs.Nearest.{far, LeadsTo}

-- the stack, top first, that the first n cells hold, bottom first
abbrev pub stacked : List ℕ → ℕ → List ℕ
stacked cells n = reverse (take n cells)

-- the machine started on the stack st, without limits and whatever follows x, has the stack st' right after it has shifted x
pub record Shifted (B : Tables) (st : List ℕ) (x : ℕ) (st' : List ℕ) : Type 0 where
  pub before : List ℕ
  pub reduced : (v : List ℕ) → Steps B st (x ∷ v) before (x ∷ v)
  pub shift : (v : List ℕ) → Step B before (x ∷ v) st' v

-- g is the next state on the way from q: by the goto under the lowest nonterminal that leads one nearer
pub record NextState (B : Tables) (claim : Claims) (x : ℕ) (to : List ℕ) (q g : ℕ) : Type 0 where
  pub symbol : ℕ
  pub transition : B.goto q symbol ≡ suc g
  pub claimed : claim q symbol x x ≡ 0
  pub nearer : get_or to q 0 ≡ get_or to g 0 + 1
  pub lowest : (X : ℕ) → X < symbol → ¬ LeadsTo B claim x to q (get_or to g 0) X

-- the cells from depth on, up to n, hold the states pushed so far, g the last; the machine has done so without consuming x
pub record StatesPushed (B : Tables) (x : ℕ) (to : List ℕ) (depth : ℕ) (old : List ℕ) (n g : ℕ) (new : List ℕ) : Type 0 where
  pub size : length new ≡ length old
  pub some : 1 ≤ n
  pub least : depth ≤ n
  pub room : n + get_or to g 0 + 1 ≤ length new
  pub depth_is : n + get_or to g 0 ≡ depth + get_or to (get_or old (depth - 1) 0) 0
  pub top : get_or new (n - 1) 0 ≡ g
  pub state : g < B.states
  pub near : get_or to g 0 < far
  pub below : take depth new ≡ take depth old
  pub above : drop n new ≡ drop n old
  pub states : (k : ℕ) → depth ≤ k → k < n → get_or new k 0 < B.states
  pub run : (v : List ℕ) → Steps B (stacked old depth) (x ∷ v) (stacked new n) (x ∷ v)

-- x is shifted: the states pushed stand from depth on, up to r, and the other cells are as they were
pub record Advanced (B : Tables) (x : ℕ) (to : List ℕ) (depth : ℕ) (old : List ℕ) (r : ℕ) (new : List ℕ) : Type 0 where
  pub depth_is : r ≡ depth + get_or to (get_or old (depth - 1) 0) 0 + 1
  pub below : take depth new ≡ take depth old
  pub above : drop r new ≡ drop r old
  pub states : (k : ℕ) → depth ≤ k → k < r → get_or new k 0 < B.states
  pub shifted : Shifted B (stacked old depth) x (stacked new r)
