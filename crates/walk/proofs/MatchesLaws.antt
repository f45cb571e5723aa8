-- Laws of claimed costs that stand for words: the least is exact, and back; a bound on them is one on words. Assumes nothing.
use Rattle.std.specs.Prelude.{List, ◌↔◌, ◌≡◌, refl, ℕ, ◌≤◌}
use Rattle.std.proofs.Common.{inl, inr, ⊎_elim, subst, le_trans, arith}
use Rattle.walk.specs.Scale.{Scale, unreached, cap}
use Rattle.walk.specs.Cost.{cost, Attained, Exact}
use Rattle.walk.proofs.CostLaws.{attained-map}
use Rattle.walk.specs.Claims.{Least, Matches}

module _ {σ : Scale} {K : ℕ → Type 0} {P : List ℕ → Type 0} where
  -- where no word costs less than some claimed cost, and some word costs the least of these, that is exact
  pub below-then-exact : {d : ℕ} → ((w : List ℕ) → P w → (v : ℕ) × K v × (v ≤ cap σ (cost σ w))) → ((v : ℕ) → K v → Attained σ P v) → Least σ K d → Exact σ P d
  below-then-exact {d} f g l = record {
    least = λ w p. let (v, k, h) = f w p in le_trans (l.below v k) h;
    attained = ⊎_elim inl (g d) l.attained;
  }

  module _ (m : Matches σ K P) where
    -- the least claimed cost is the least cost of a word ..
    pub matches-exact : {d : ℕ} → Least σ K d → Exact σ P d
    matches-exact l = below-then-exact m.below m.above l

    -- .. and the other way
    pub matches-least : {d : ℕ} → Exact σ P d → Least σ K d
    matches-least {d} e = record { below = below; attained = ⊎_elim inl (λ (w, p, h). inr (least w p h)) e.attained }
      where
        most : d ≤ unreached σ
        most = ⊎_elim (λ h. omega arith) (λ (w, p, h). omega arith) e.attained

        below : (v : ℕ) → K v → d ≤ v
        below v k = ⊎_elim (λ h. omega (arith, most)) (λ (w, p, h). omega (arith, e.least w p)) (m.above v k)

        least : (w : List ℕ) → P w → d ≡ cap σ (cost σ w) → K d
        least w p h = let (v, k, l) = m.below w p in let same : v ≡ d = omega (arith, below v k) in subst K same k

    -- up to the limit, a bound on claimed costs is one on what words cost
    pub matches-within : {r : ℕ} → r ≤ σ.limit → ((v : ℕ) × (v ≤ r) × K v) ↔ ((w : List ℕ) × (cost σ w ≤ r) × P w)
    matches-within l = (
      λ (v, h, k). ⊎_elim (λ e. absurd (omega (arith, h))) (λ (w, p, e). (w, omega (arith, h), p)) (m.above v k),
      λ (w, h, p). let (v, k, j) = m.below w p in (v, omega (arith, h), k),
    )

-- the least cost of words stands for them
pub exact-matches : {σ : Scale} {P : List ℕ → Type 0} {d : ℕ} → Exact σ P d → Matches σ (λ v. v ≡ d) P
exact-matches {d} e = record { below = λ w p. (d, refl, e.least w p); above = λ v i. rw i e.attained }

-- the same words
pub matches-map : {σ : Scale} {K : ℕ → Type 0} {P Q : List ℕ → Type 0} → ((w : List ℕ) → P w ↔ Q w) → Matches σ K P → Matches σ K Q
matches-map {σ} f m = record { below = λ w q. m.below w ((f w).1 q); above = λ v k. attained-map σ (λ w p. (f w).0 p) (m.above v k) }
