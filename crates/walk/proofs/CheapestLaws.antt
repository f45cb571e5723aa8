-- On the scale of tariffs the answer is the cheapest sentence, then the shortest, then the first, where no tariff is 0. Assumes nothing.
use Rattle.std.specs.Prelude.{List, [], ◌∷◌, ◌↔◌, ◌≡◌, refl, ℕ, ◌+◌, ◌*◌, ◌/◌, ◌≤◌, ◌<◌, length}
use Rattle.std.proofs.Common.{inl, inr, ⊎_elim, sym, arith}
use Rattle.std.proofs.Math.Decide.{dec_lt}
use Rattle.book.specs.Tables.{Tables}
use Rattle.machine.specs.Machine.{Terminals, none, more}
use Rattle.walk.specs.Scale.{Scale, unreached}
use Rattle.walk.specs.Cost.{cost}
use Rattle.walk.specs.Order.{Earlier, Better}
use Rattle.walk.proofs.OrderLaws.{before-length, before-earlier, earlier-before}
use Rattle.walk.specs.Answer.{Outcome, Unreached, Long, Sentence, Best, Answer}
use Rattle.walk.specs.AnswerLaws.{mapped}
use Rattle.walk.specs.Shortest.{Shorter}
use Rattle.walk.specs.Cheapest.{tariffed, charge, Cheaper, Cheapest, charge_of}

pub cost-charge : (tariff : ℕ → ℕ) (w : List ℕ) → cost (tariffed tariff) w ≡ charge tariff w * 65_536 + length w
cost-charge tariff [] = refl
cost-charge tariff (t ∷ w) = omega (arith, cost-charge tariff w)

module _ {tariff : ℕ → ℕ} (some : (t : ℕ) → 1 ≤ tariff t) where
  pub symbols-charged : (w : List ℕ) → length w ≤ charge tariff w
  symbols-charged [] = omega arith
  symbols-charged (t ∷ w) = omega (arith, some t, symbols-charged w)

  -- the limit is one of charge
  pub limit-charge : (w : List ℕ) → (cost (tariffed tariff) w ≤ (tariffed tariff).limit) ↔ (charge tariff w ≤ 60_000)
  limit-charge w = (
    λ h. omega (arith, h, cost-charge tariff w),
    λ h. omega (arith, h, cost-charge tariff w, symbols-charged w),
  )

  -- .. and within it the order is by charge, then by symbols, then by ranks
  module _ {rank : ℕ → ℕ} (v w : List ℕ) (h : charge tariff v ≤ 60_000) where
    pub better-cheaper : Better (tariffed tariff) rank v w ↔ Cheaper tariff rank v w
    better-cheaper = (⊎_elim (λ l. less l (dec_lt (charge tariff v) (charge tariff w))) (λ (e, r). same e r), ⊎_elim (λ l. inl (below l)) (λ (e, x). tied e x))
      where
        less : cost (tariffed tariff) v < cost (tariffed tariff) w → Dec (charge tariff v < charge tariff w) → Cheaper tariff rank v w
        less l (yes d) = inl d
        less l (no d) = inr (omega (arith, symbols-charged v, symbols-charged w, cost-charge tariff v, cost-charge tariff w), inl (omega (arith, symbols-charged v, symbols-charged w, cost-charge tariff v, cost-charge tariff w)))

        same : cost (tariffed tariff) v ≡ cost (tariffed tariff) w → Earlier rank v w → Cheaper tariff rank v w
        same e r =
            let c : charge tariff v ≡ charge tariff w = omega (arith, symbols-charged v, symbols-charged w, cost-charge tariff v, cost-charge tariff w) in
            inr (c, inr (earlier-before r (omega (arith, c, cost-charge tariff v, cost-charge tariff w))))

        below : charge tariff v < charge tariff w → cost (tariffed tariff) v < cost (tariffed tariff) w
        below l = omega (arith, symbols-charged v, cost-charge tariff v, cost-charge tariff w)

        tied : charge tariff v ≡ charge tariff w → Shorter rank v w → Better (tariffed tariff) rank v w
        tied e (inl l) = inl (omega (arith, cost-charge tariff v, cost-charge tariff w))
        tied e (inr r) = inr (omega (arith, before-length r, cost-charge tariff v, cost-charge tariff w), before-earlier r)

  module _ (rank : ℕ → ℕ) (P : List ℕ → Type 0) where
    pub best-cheapest : (o : Outcome) → Best (tariffed tariff) rank P o ↔ Cheapest tariff rank P o
    best-cheapest Unreached = (λ a. a, λ a. a)
    best-cheapest Long = (
      λ (x, f). (x, λ w p. omega (arith, f w p, cost-charge tariff w, symbols-charged w)),
      λ (x, f). (x, λ w p. omega (arith, f w p, cost-charge tariff w)),
    )
    best-cheapest (Sentence w) = (
      λ (p, h, f). let l = (limit-charge w).0 h in (p, l, λ v q n. (better-cheaper w v l).0 (f v q n)),
      λ (p, l, f). (p, (limit-charge w).1 l, λ v q n. (better-cheaper w v l).1 (f v q n)),
    )

    -- the map's entry is the cost without the count of symbols; the mark for unreached is one for itself
    pub mapped-charge : (o : Outcome) → Best (tariffed tariff) rank P o → mapped (tariffed tariff) o < unreached (tariffed tariff)
        → mapped (tariffed tariff) o / 65_536 ≡ charge_of tariff o
    mapped-charge Unreached a h = absurd (omega arith)
    mapped-charge Long a h = refl
    mapped-charge (Sentence w) a h = let l = (limit-charge w).0 a.1 in omega (arith, l, cost-charge tariff w, symbols-charged w)

-- scales that agree on the limit and on the terminals of a book have the same answers
pub record Agree (σ ρ : Scale) (B : Tables) : Type 0 where
  pub limit : σ.limit ≡ ρ.limit
  pub extra : (t : ℕ) → 1 ≤ t → t < B.terminals → σ.extra t ≡ ρ.extra t

module _ {σ ρ : Scale} {B : Tables} (g : Agree σ ρ B) where
  pub agree-back : Agree ρ σ B
  agree-back = record { limit = sym g.limit; extra = λ t h i. sym (g.extra t h i) }

  pub cost-agree : {w : List ℕ} → Terminals B w → cost σ w ≡ cost ρ w
  cost-agree none = refl
  cost-agree (more {a} h i t) = omega (arith, g.extra a h i, cost-agree t)

  module _ (rank : ℕ → ℕ) {P : List ℕ → Type 0} (t : (w : List ℕ) → P w → Terminals B w) where
    pub best-agree : (o : Outcome) → Best σ rank P o → Best ρ rank P o
    best-agree Unreached a = a
    best-agree Long (x, f) = (x, λ w p. omega (arith, f w p, g.limit, cost-agree (t w p)))
    best-agree (Sentence w) (p, h, f) = (
      p,
      omega (arith, h, g.limit, cost-agree (t w p)),
      λ v q n. ⊎_elim
          (λ l. inl (omega (arith, l, cost-agree (t w p), cost-agree (t v q))))
          (λ (e, b). inr (omega (arith, e, cost-agree (t w p), cost-agree (t v q)), b))
          (f v q n),
    )

  pub answer-agree : (rank : ℕ → ℕ) (s z : ℕ) (o : Outcome) → Answer σ rank B s z o → Answer ρ rank B s z o
  answer-agree rank s z o a = best-agree rank (λ w r. r.terminals) o a
