-- Walks: what the machine does from a state by transitions alone, and what it can reach from any stack. Assumes nothing.
use Rattle.std.specs.Prelude.{◌≡◌, List, [], ◌∷◌, ◌++◌, ℕ, suc, ◌+◌, ◌<◌, drop}
use Rattle.book.specs.Tables.{Tables}
use Rattle.book.specs.declared.Action.TheVariants.{Shift, Reduce}

-- Walk B q a w z n q': with q on top of any stack, n transitions lead to q' and push n states by taking in w, where z is the next terminal
-- and a is the first of w z. 'A transition is a shift or a goto that is not none'; a goto is crossed by a walk of the production's length
-- to a state that reduces it under the terminal that follows
pub data Walk (B : Tables) : ℕ → ℕ → List ℕ → ℕ → ℕ → ℕ → Type 0 where
  here : {q z : ℕ} → Walk B q z [] z 0 q
  shifted : {q a t n q₁ q₂ : ℕ} {w : List ℕ} (z : ℕ) → Walk B q a w t n q₁ → B.act q₁ t ≡ Shift q₂ → Walk B q a (w ++ (t ∷ [])) z (suc n) q₂
  crossed : {q a b z n q₁ m q₂ p q₃ : ℕ} {w v : List ℕ} → Walk B q a w b n q₁ → Walk B q₁ b v z m q₂
      → B.act q₂ z ≡ Reduce p → B.len p ≡ m → B.goto q₁ (B.lhs p) ≡ suc q₃ → Walk B q a (w ++ v) z (suc n) q₃

-- a walk from q with first terminal a takes in the front of w and leads to some pair (s, z), and P s z holds of the rest
pub record WalksTo (B : Tables) (P : ℕ → ℕ → List ℕ → Type 0) (q a : ℕ) (w : List ℕ) : Type 0 where
  pub count : ℕ
  pub state : ℕ
  pub next : ℕ
  pub front : List ℕ
  pub rest : List ℕ
  pub walk : Walk B q a front next count state
  pub terminal : next < B.terminals
  pub done : P state next rest
  pub whole : w ≡ front ++ rest

-- the first terminal of w z
unfoldable pub first : List ℕ → ℕ → ℕ
first [] z = z
first (t ∷ w) z = t

-- Chain B q st a w z n q' st': the stack q ∷ st has grown to q' ∷ st', n states more, by a walk of one transition for each, by taking in w; z is
-- next, and a is the first terminal of w z
pub data Chain (B : Tables) (q : ℕ) (st : List ℕ) (a : ℕ) : List ℕ → ℕ → ℕ → ℕ → List ℕ → Type 0 where
  base : Chain B q st a [] a 0 q st
  push : {b z n q₁ q₂ : ℕ} {w v st₁ : List ℕ} → Chain B q st a w b n q₁ st₁ → Walk B q₁ b v z 1 q₂ → Chain B q st a (w ++ v) z (suc n) q₂ (q₁ ∷ st₁)

-- Descends B End stack a w: fed w and what follows, whose first terminal is a, the machine started on the stack comes to an end with w taken in:
-- as End says, of the top, what is below it, a, w and how many states are pushed; or by a walk to a reduction that pops the stack below the
-- top, k states of it, and then from the smaller stack
pub data Descends (B : Tables) (End : ℕ → List ℕ → ℕ → List ℕ → ℕ → Type 0) : List ℕ → ℕ → List ℕ → Type 0 where
  arrives : {q a n : ℕ} {st w : List ℕ} → End q st a w n → Descends B End (q ∷ st) a w
  pops : {q a b n q₁ p q₂ g : ℕ} {st w v st₂ : List ℕ} (k : ℕ) → Walk B q a w b n q₁ → B.act q₁ b ≡ Reduce p → B.len p ≡ n + suc k
      → drop k st ≡ q₂ ∷ st₂ → B.goto q₂ (B.lhs p) ≡ suc g → Descends B End (g ∷ q₂ ∷ st₂) b v → Descends B End (q ∷ st) a (w ++ v)

-- the machine brings s on top, with w taken in and z not
abbrev pub Gets : Tables → ℕ → ℕ → List ℕ → ℕ → List ℕ → Type 0
Gets B s z = Descends B (λ q st a w n. Walk B q a w z n s)

-- .. one of a set of goals (s, z)
abbrev pub GetsTo : Tables → (ℕ → ℕ → Type 0) → List ℕ → ℕ → List ℕ → Type 0
GetsTo B Goal = Descends B (λ q st a w n. (s z : ℕ) × Goal s z × Walk B q a w z n s)

-- .. s itself, and then the stack is s ∷ below
abbrev pub Lands : Tables → ℕ → ℕ → List ℕ → List ℕ → ℕ → List ℕ → Type 0
Lands B s z below = Descends B (λ q st a w n. Chain B q st a w z n s below)
