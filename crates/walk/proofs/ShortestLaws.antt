-- On the plain scale a word costs its length, and the answer is the shortest and first sentence. Assumes nothing.
use Rattle.std.specs.Prelude.{List, [], ◌∷◌, ◌↔◌, ◌≡◌, refl, ℕ, length}
use Rattle.std.proofs.Common.{inl, inr, ⊎_elim, arith}
use Rattle.book.specs.Tables.{Tables}
use Rattle.machine.specs.Machine.{Reaches}
use Rattle.walk.specs.Scale.{plain}
use Rattle.walk.specs.Cost.{cost}
use Rattle.walk.specs.Order.{Better}
use Rattle.walk.proofs.OrderLaws.{before-length, before-earlier, earlier-before}
use Rattle.walk.specs.Answer.{Outcome, Unreached, Long, Sentence, Best, Answer}
use Rattle.walk.specs.AnswerLaws.{mapped}
use Rattle.walk.specs.Shortest.{Shorter, Shortest, length_of}

pub cost-length : (w : List ℕ) → cost plain w ≡ length w
cost-length [] = refl
cost-length (t ∷ w) = omega (arith, cost-length w)

pub better-shorter : {rank : ℕ → ℕ} (v w : List ℕ) → Better plain rank v w ↔ Shorter rank v w
better-shorter {rank} v w = (
  ⊎_elim (λ h. inl (omega (arith, cost-length v, cost-length w))) (λ (e, r). inr (earlier-before r (omega (arith, e, cost-length v, cost-length w)))),
  ⊎_elim (λ h. inl (omega (arith, cost-length v, cost-length w))) (λ r. inr (omega (arith, before-length r, cost-length v, cost-length w), before-earlier r)),
)

module _ (rank : ℕ → ℕ) (P : List ℕ → Type 0) where
  pub best-shortest : (o : Outcome) → Best plain rank P o ↔ Shortest rank P o
  best-shortest Unreached = (λ a. a, λ a. a)
  best-shortest Long = (λ (x, f). (x, λ w p. omega (arith, f w p, cost-length w)), λ (x, f). (x, λ w p. omega (arith, f w p, cost-length w)))
  best-shortest (Sentence w) = (
    λ (p, h, f). (p, omega (arith, h, cost-length w), λ v q n. (better-shorter w v).0 (f v q n)),
    λ (p, h, f). (p, omega (arith, h, cost-length w), λ v q n. (better-shorter w v).1 (f v q n)),
  )

-- for a pair
pub answer-shortest : (rank : ℕ → ℕ) (B : Tables) (s z : ℕ) (o : Outcome) → Answer plain rank B s z o ↔ Shortest rank (λ w. Reaches B w z s) o
answer-shortest rank B s z o = best-shortest rank (λ w. Reaches B w z s) o

pub mapped-length : (o : Outcome) → mapped plain o ≡ length_of o
mapped-length Unreached = refl
mapped-length Long = refl
mapped-length (Sentence w) = cost-length w
