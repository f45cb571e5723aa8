-- Laws of the choice of a symbol: the row of terminals is gone through by rising rank. Assumes nothing.
use Rattle.std.specs.Prelude.{List, [], ◌∷◌, ◌⊎◌, ◌≡◌, refl, ℕ, zero, suc, ◌+◌, ◌≤◌, ◌<◌, length, get_or}
use Rattle.std.proofs.Common.{inl, inr, ⊎_elim, sym, arith, eq-eqb, ne_eqb}
use Rattle.std.proofs.Math.Logic.{⊎_map}
use Rattle.std.proofs.Math.Decide.{ℕ_discrete}
use Rattle.book.specs.Order.{place_in, Arranged}
use Rattle.choice.specs.Choice.{LowestBy}

-- at its place a number stands ..
place-holds : (row : List ℕ) (a : ℕ) → place_in row a < length row → get_or row (place_in row a) 0 ≡ a
unfolding place_in
place-holds [] a h = absurd (omega arith)
place-holds (x ∷ row) a h = go (ℕ_discrete x a) (λ l. place-holds row a l)
  where
    go : Dec (x ≡ a) → (place_in row a < length row → get_or row (place_in row a) 0 ≡ a) → get_or (x ∷ row) (place_in (x ∷ row) a) 0 ≡ a
    go (yes e) r = rw (eq-eqb x a e) e
    go (no n) r = rw (ne_eqb x a n) (r (omega (arith, rw (ne_eqb x a n) at h)))

-- .. and at no index before it
place-first : (row : List ℕ) (k : ℕ) → k < length row → place_in row (get_or row k 0) ≤ k
unfolding place_in
place-first [] k h = absurd (omega arith)
place-first (x ∷ row) zero h = rw (eq-eqb x x refl) (omega arith)
place-first (x ∷ row) (suc k) h = go (ℕ_discrete x (get_or row k 0)) (place-first row k (omega arith))
  where
    go : Dec (x ≡ get_or row k 0) → place_in row (get_or row k 0) ≤ k → place_in (x ∷ row) (get_or row k 0) ≤ suc k
    go (yes e) l = rw (eq-eqb x (get_or row k 0) e) (omega arith)
    go (no n) l = rw (ne_eqb x (get_or row k 0) n) (omega arith)

-- no symbol in P stands among the first k of the row
pub record PassedOver (order : List ℕ) (P : ℕ → Type 0) (k : ℕ) : Type 0 where
  pub later : (y : ℕ) → 1 ≤ y → P y → k ≤ place_in order y

pub passed_none : {order : List ℕ} {P : ℕ → Type 0} → PassedOver order P 0
passed_none = record { later = λ y h p. omega arith }

module _ {order : List ℕ} {P : ℕ → Type 0} {t k : ℕ} (a : Arranged t order) (p : PassedOver order P k) where
  pub passed-all : t ≤ k → LowestBy (place_in order) P t t
  passed-all h = record {
    found = λ m. absurd (omega (arith, m));
    first = λ y o m q. absurd (omega (arith, p.later y o q, a.stands y o m));
  }

  module _ (small : t ≤ 32) (h : k < t) where
    inside : k < length order
    inside = omega (arith, a.size)

    -- a symbol in P stands at k or later
    at-or-later : (y : ℕ) → 1 ≤ y → P y → (y ≡ get_or order k 0) ⊎ (k < place_in order y)
    at-or-later y o q = go (ℕ_discrete (place_in order y) k)
      where
        go : Dec (place_in order y ≡ k) → (y ≡ get_or order k 0) ⊎ (k < place_in order y)
        go (yes e) = inl (rw (← e) (sym (place-holds order y (omega (arith, inside)))))
        go (no n) = inr (omega (arith, p.later y o q))

    pub passed-more : (1 ≤ get_or order k 0 → P (get_or order k 0) → ⊥) → PassedOver order P (k + 1)
    passed-more n = record { later = λ y o q. ⊎_elim (λ e. absurd (n (rw e at o) (rw e at q))) (λ l. omega (arith, l)) (at-or-later y o q) }

    pub passed-found : (1 ≤ get_or order k 0) × P (get_or order k 0) → LowestBy (place_in order) P t (get_or order k 0)
    passed-found f = record {
      found = λ m. f;
      first = λ y o m q. (a.terminals k h, ⊎_map (λ e. e) (λ l. omega (arith, l, place-first order k inside)) (at-or-later y o q));
    }
