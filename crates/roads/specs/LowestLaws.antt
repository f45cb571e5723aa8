-- Laws of searches for the lowest number: one set said otherwise, a search upwards, and what lowers a number at hand: none, one, two
-- searches after each other, a loop. Assumes nothing.
use Rattle.std.specs.Prelude.{◌⊎◌, ◌≡◌, refl, ℕ, ◌+◌, ◌≤◌, ◌<◌}
use Rattle.std.proofs.Common.{inl, inr, ⊎_elim, sym, ◌∙◌, subst, le_refl, le_trans, le_antisymm, arith}
use Rattle.std.proofs.Math.Decide.{ℕ_discrete}
use Rattle.roads.specs.Lowest.{Lowest, Lowered, Among}

-- the same set of numbers
pub lowest-map : {P Q : ℕ → Type 0} {top i : ℕ} → ((k : ℕ) → P k → Q k) → ((k : ℕ) → Q k → P k) → Lowest P top i → Lowest Q top i
lowest-map {i} f g p = record { below = λ k x. p.below k (g k x); attained = ⊎_elim inl (λ x. inr (f i x)) p.attained }

-- a search upwards: no number of P is below k, nor is k one
pub lowest-more : (P : ℕ → Type 0) {k : ℕ} → ((j : ℕ) → P j → k ≤ j) → ¬ P k → (j : ℕ) → P j → k + 1 ≤ j
lowest-more P {k} f n j x = go (ℕ_discrete j k)
  where
    go : Dec (j ≡ k) → k + 1 ≤ j
    go (yes e) = absurd (n (subst P e x))
    go (no m) = omega (arith, f j x)

-- ---- a number at hand
module _ {P : ℕ → Type 0} {top : ℕ} where
  -- no number of P is below it
  pub lowered_none : ((j : ℕ) → P j → top ≤ j) → Lowered P top top
  lowered_none f = record { fall = le_refl top; lowest = record { below = f; attained = inl refl } }

  -- the one number of P is below it
  pub lowered-here : {k : ℕ} → k < top → P k → ((j : ℕ) → P j → j ≡ k) → Lowered P top k
  lowered-here h x f = record { fall = omega arith; lowest = record { below = λ j y. omega (arith, f j y); attained = inr x } }

  pub lowered-map : {Q : ℕ → Type 0} {i : ℕ} → ((k : ℕ) → P k → Q k) → ((k : ℕ) → Q k → P k) → Lowered P top i → Lowered Q top i
  lowered-map f g p = record { fall = p.fall; lowest = lowest-map f g p.lowest }

  -- two searches, one after the other
  pub lowered-join : {Q : ℕ → Type 0} {i j : ℕ} → Lowered P top i → Lowered Q i j → Lowered (λ k. P k ⊎ Q k) top j
  lowered-join {Q} {i} {j} p q = record {
    fall = le_trans q.fall p.fall;
    lowest = record {
      below = λ k. ⊎_elim (λ x. le_trans q.fall (p.lowest.below k x)) (λ x. q.lowest.below k x);
      attained = ⊎_elim (λ e. ⊎_elim (λ f. inl (e ∙ f)) (λ x. inr (inl (subst P (sym e) x))) p.lowest.attained) (λ x. inr (inr x)) q.lowest.attained;
    };
  }

-- ---- a loop: no turn, one turn more, every turn done
module _ (P : ℕ → ℕ → Type 0) where
  pub lowered-zero : (top : ℕ) → Lowered (Among 0 P) top top
  lowered-zero top = lowered_none (λ j (k, h, x). omega arith)

  pub lowered-more : (i : ℕ) {top m n : ℕ} → Lowered (Among i P) top m → Lowered (P i) m n → Lowered (Among (i + 1) P) top n
  lowered-more i p q =
      lowered-map
      (λ k. ⊎_elim (λ (j, h, x). (j, omega arith, x)) (λ x. (i, omega arith, x)))
      (λ k (j, h, x). split k j h x (ℕ_discrete j i))
      (lowered-join p q)
    where
      split : (k j : ℕ) → j < i + 1 → P j k → Dec (j ≡ i) → Among i P k ⊎ P i k
      split k j h x (yes e) = inr (subst (λ (m : ℕ). P m k) e x)
      split k j h x (no n) = inl (j, omega arith, x)

  pub lowered-done : {i n top m : ℕ} → i ≤ n → n ≤ i → Lowered (Among i P) top m → Lowered (Among n P) top m
  lowered-done {top} {m} h g p = subst (λ (j : ℕ). Lowered (Among j P) top m) (le_antisymm h g) p

  -- a loop by a list of turns that leaves out only turns without a number
  pub lowered-listed : {n m top i : ℕ} (at : ℕ → ℕ) → ((l : ℕ) → l < n → at l < m) → ((j k : ℕ) → j < m → P j k → (l : ℕ) × (l < n) × (at l ≡ j))
      → Lowered (Among n (λ l. P (at l))) top i → Lowered (Among m P) top i
  lowered-listed at small has = lowered-map
      (λ k (l, h, x). (at l, small l h, x))
      (λ k (j, h, x). let (l, hl, e) = has j k h x in (l, hl, subst (λ (m : ℕ). P m k) (sym e) x))
