-- The machine. Assumes nothing.
use Rattle.std.specs.Prelude.{◌≡◌, List, [], ◌∷◌, ◌++◌, drop, ℕ, zero, suc, ◌≤◌, ◌<◌}
use Rattle.book.specs.{Tables.Tables, declared.Action.Action}

-- what a step does: 'accept, error and a broken reduction end it'; a shift pushes a state, a reduction leaves a new stack
pub data Move : Type 0 where
  accepts fails breaks : Move
  shifts : ℕ → Move
  reduces : List ℕ → Move

-- 'pushes the goto of the state then on top under the left side'; 'that goto is none'
abbrev pub goes : ℕ → List ℕ → Move
goes zero stack = breaks
goes (suc g) stack = reduces (g ∷ stack)

-- the states that a reduction leaves: 'if n or fewer states are stacked .. the run is broken'
abbrev pub lands : Tables → ℕ → List ℕ → Move
lands B X [] = breaks
lands B X (q ∷ st) = goes (B.goto q X) (q ∷ st)

abbrev pub does : Tables → List ℕ → Action → Move
does B stack Action.Error = fails
does B stack Action.Accept = accepts
does B stack (Action.Shift s) = shifts s
does B stack (Action.Reduce p) = lands B (B.lhs p) (drop (B.len p) stack)

-- 'a step looks at the top state and the next symbol'; the stack is top first, and never empty
unfoldable pub next : Tables → List ℕ → ℕ → Move
next B [] a = breaks
next B (q ∷ st) a = does B (q ∷ st) (B.act q a)

-- one step: from a stack and the input still to come to a stack and the input still to come
pub data Step (B : Tables) : List ℕ → List ℕ → List ℕ → List ℕ → Type 0 where
  shift : {st u : List ℕ} {a s : ℕ} → next B st a ≡ shifts s → Step B st (a ∷ u) (s ∷ st) u
  reduce : {st st' u : List ℕ} {a : ℕ} → next B st a ≡ reduces st' → Step B st (a ∷ u) st' (a ∷ u)

-- steps one after the other, without limits
pub data Steps (B : Tables) : List ℕ → List ℕ → List ℕ → List ℕ → Type 0 where
  done : {st u : List ℕ} → Steps B st u st u
  then : {s₁ u₁ s₂ u₂ s₃ u₃ : List ℕ} → Step B s₁ u₁ s₂ u₂ → Steps B s₂ u₂ s₃ u₃ → Steps B s₁ u₁ s₃ u₃

-- 'symbols from 1 to T - 1'
pub data Terminals (B : Tables) : List ℕ → Type 0 where
  none : Terminals B []
  more : {a : ℕ} {w : List ℕ} → 1 ≤ a → a < B.terminals → Terminals B w → Terminals B (a ∷ w)

-- 'the machine fed w then z has at some moment taken in all of w and not z, with s on top'
pub record Reaches (B : Tables) (w : List ℕ) (z s : ℕ) : Type 0 where
  pub terminals : Terminals B w
  pub below : List ℕ
  pub run : Steps B (0 ∷ []) (w ++ (z ∷ [])) (s ∷ below) (z ∷ [])
