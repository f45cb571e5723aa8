-- What it costs to be done from a state over a stack is the least of what counts there. Assumes nothing.
use Rattle.std.specs.Prelude.{Bool, true, false, cond, List, ◌⊎◌, ◌≡◌, drop}
use Rattle.std.proofs.lemmas.Bool.{false≢true}
use Rattle.std.proofs.Math.Logic.{inl}
use Rattle.std.proofs.Common.{inr, sym, ◌∙◌, arith}
use Rattle.std.proofs.Math.Path.{refl}
use Prim.Native.Nat.{ℕ, zero, suc, ◌+◌, ◌-◌, ◌≤◌, ◌<◌, min}
use Rattle.std.proofs.Math.Nat.{le_refl}
use Rattle.std.proofs.Math.Decide.{dec_lt}
use Rattle.book.specs.Tables.{Tables}
use Rattle.walk.specs.Ends.{bare, to_go, end_cost}

-- v is the least of what G has for (q, a) and of what the layers below m have for it where a reduction of n states under X breaks: j transitions
-- after q it takes off k states of the stack below q
pub record LeastToGo (B : Tables) (X n : ℕ) (G : ℕ → ℕ → ℕ) (L : ℕ → ℕ → ℕ → ℕ) (m : ℕ) (st : List ℕ) (q a v : ℕ) : Type 0 where
  pub far : v ≤ G q a
  pub near : (j k : ℕ) → j < m → n ≡ j + suc k → bare B X (drop k st) ≡ true → v ≤ L j q a
  pub attained : (v ≡ G q a) ⊎ ((j k : ℕ) × (n ≡ j + suc k) × (bare B X (drop k st) ≡ true) × (v ≡ L j q a))

module _ (B : Tables) (X n : ℕ) (G : ℕ → ℕ → ℕ) (L : ℕ → ℕ → ℕ → ℕ) (st : List ℕ) (q a : ℕ) where
  -- one layer more
  least_more : {m v : ℕ} → m < n → LeastToGo B X n G L m st q a v → (b : Bool) → bare B X (drop (n - suc m) st) ≡ b
      → LeastToGo B X n G L (suc m) st q a (cond b (min (L m q a) v) v)
  least_more {m} {v} h l true e = record { far = omega (arith, l.far); near = λ j k hj i b. low j k hj i b (dec_lt j m); attained = top (dec_lt (L m q a) v) }
    where
      low : (j k : ℕ) → j < suc m → n ≡ j + suc k → bare B X (drop k st) ≡ true → Dec (j < m) → min (L m q a) v ≤ L j q a
      low j k hj i b (yes g) = omega (arith, l.near j k g i b)
      low j k hj i b (no g) = let same : j ≡ m = omega arith in rw same (omega arith)

      top : Dec (L m q a < v) → (min (L m q a) v ≡ G q a) ⊎ ((j k : ℕ) × (n ≡ j + suc k) × (bare B X (drop k st) ≡ true) × (min (L m q a) v ≡ L j q a))
      top (yes g) = inr (m, n - suc m, omega arith, e, omega arith)
      top (no g) = let same : min (L m q a) v ≡ v = omega arith in rw same l.attained
  least_more {m} {v} h l false e = record { far = l.far; near = λ j k hj i b. low j k hj i b (dec_lt j m); attained = l.attained }
    where
      low : (j k : ℕ) → j < suc m → n ≡ j + suc k → bare B X (drop k st) ≡ true → Dec (j < m) → v ≤ L j q a
      low j k hj i b (yes g) = l.near j k g i b
      low j k hj i b (no g) = let same : n - suc m ≡ k = omega arith in absurd (false≢true (sym (rw same at e) ∙ b))

  to-go-least : (m : ℕ) → m ≤ n → LeastToGo B X n G L m st q a (to_go B X n G L m st q a)
  unfolding to_go
  to-go-least zero h = record { far = le_refl (G q a); near = λ j k hj i b. absurd (omega arith); attained = inl refl }
  to-go-least (suc m) h = least_more (omega arith) (to-go-least m (omega arith)) (bare B X (drop (n - suc m) st)) refl

  pub end-cost-least : LeastToGo B X n G L n st q a (end_cost B X n G L st q a)
  end-cost-least = to-go-least n (le_refl n)
