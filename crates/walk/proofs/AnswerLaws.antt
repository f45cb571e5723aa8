-- Laws of the answer: its cost is exact, at most one answer is right, and it depends on the words alone. Assumes nothing.
use Rattle.std.specs.Prelude.{Bool, true, false, ◌↔◌, ◌≡◌, refl, ℕ, ◌≤◌}
use mathlib.Core.List.{List, List-discrete}
use Rattle.std.proofs.Common.{inl, inr, ⊎_elim, ap, arith}
use Rattle.std.proofs.Math.Logic.{⊎_map}
use Rattle.std.proofs.Math.Decide.{ℕ_discrete}
use Rattle.book.specs.Tables.{Tables}
use Rattle.machine.specs.Machine.{Terminals, Reaches}
use Rattle.walk.specs.Scale.{Scale, cap, long, unreached}
use Rattle.walk.specs.Cost.{cost, Exact}
use Rattle.walk.proofs.CostLaws.{exact_one, exact_none}
use Rattle.walk.specs.Order.{Better}
use Rattle.walk.specs.OrderLaws.{RankAlike}
use Rattle.walk.proofs.OrderLaws.{earlier-alike, better-one}
use Rattle.walk.specs.Answer.{Outcome, Unreached, Long, Sentence, Best, Answer, WordsOf, AnswerAs}
use Rattle.walk.specs.AnswerLaws.{mapped}

better-cost : (σ : Scale) {rank : ℕ → ℕ} {v w : List ℕ} → Better σ rank v w → cost σ v ≤ cost σ w
better-cost σ (inl h) = omega arith
better-cost σ (inr (e, r)) = omega arith

module _ (σ : Scale) (rank : ℕ → ℕ) (P : List ℕ → Type 0) where
  -- the answer's place in the map is the exact cost
  pub best-exact : (o : Outcome) → Best σ rank P o → Exact σ P (mapped σ o)
  best-exact Unreached a = exact_none.1 a
  best-exact Long a = record {
    least = λ w p. omega (arith, a.1 w p);
    attained = inr (a.0.0, a.0.1, omega (arith, a.1 a.0.0 a.0.1));
  }
  best-exact (Sentence w) a = record {
    least = λ v p. go v p (List-discrete ℕ_discrete v w);
    attained = inr (w, a.0, omega arith);
  }
    where
      go : (v : List ℕ) → P v → Dec (v ≡ w) → cost σ w ≤ cap σ (cost σ v)
      go v p (yes e) = omega (arith, ap (cost σ) e)
      go v p (no n) = omega (arith, better-cost σ (a.2 v p n))

  -- and unreached and long are the answer wherever they are the exact cost
  pub best_none : Exact σ P (unreached σ) → Best σ rank P Unreached
  best_none e = exact_none.0 e

  pub best-long : Exact σ P (long σ) → Best σ rank P Long
  best-long e = (⊎_elim (λ h. absurd (omega arith)) (λ (w, p, h). (w, p)) e.attained, λ w p. omega (arith, e.least w p))

  -- at most one answer is right
  pub best-one : (o o' : Outcome) → Best σ rank P o → Best σ rank P o' → o ≡ o'
  best-one o o' a b = go o o' a b (exact_one (best-exact o a) (best-exact o' b))
    where
      go : (o o' : Outcome) → Best σ rank P o → Best σ rank P o' → mapped σ o ≡ mapped σ o' → o ≡ o'
      go Unreached Unreached a b e = refl
      go Unreached Long a b e = absurd (omega arith)
      go Unreached (Sentence w) a b e = absurd (omega arith)
      go Long Unreached a b e = absurd (omega arith)
      go Long Long a b e = refl
      go Long (Sentence w) a b e = absurd (omega arith)
      go (Sentence v) Unreached a b e = absurd (omega arith)
      go (Sentence v) Long a b e = absurd (omega arith)
      go (Sentence v) (Sentence w) a b e = ap Sentence (better-one σ a.0 a.2 b.0 b.2)

-- the same words have the same answer
pub best-map : (σ : Scale) (rank : ℕ → ℕ) {P Q : List ℕ → Type 0} → ((w : List ℕ) → P w ↔ Q w) → (o : Outcome) → Best σ rank P o → Best σ rank Q o
best-map σ rank f Unreached a = λ w q. a w ((f w).1 q)
best-map σ rank f Long ((w, p), l) = ((w, (f w).0 p), λ v q. l v ((f v).1 q))
best-map σ rank f (Sentence w) (p, h, l) = ((f w).0 p, h, λ v q n. l v ((f v).1 q) n)

-- ranks that are the same on the symbols of sentences have the same answer
pub best-alike : (σ : Scale) {rank rank' : ℕ → ℕ} {B : Tables} {P : List ℕ → Type 0} → RankAlike rank rank' B → ((w : List ℕ) → P w → Terminals B w)
    → (o : Outcome) → Best σ rank P o → Best σ rank' P o
best-alike σ f t Unreached a = a
best-alike σ f t Long a = a
best-alike σ f t (Sentence w) (p, h, l) = (p, h, λ v q n. ⊎_map (λ c. c) (λ (e, r). (e, earlier-alike f (t w p) (t v q) r)) (l v q n))

-- ---- for a pair
module _ (σ : Scale) (rank : ℕ → ℕ) (B : Tables) (s z : ℕ) where
  pub answer-exact : (o : Outcome) → Answer σ rank B s z o → Exact σ (λ w. Reaches B w z s) (mapped σ o)
  answer-exact o a = best-exact σ rank (λ w. Reaches B w z s) o a

  pub exact-unreached : Exact σ (λ w. Reaches B w z s) (unreached σ) → Answer σ rank B s z Unreached
  exact-unreached e = best_none σ rank (λ w. Reaches B w z s) e

  pub answer-one : (o o' : Outcome) → Answer σ rank B s z o → Answer σ rank B s z o' → o ≡ o'
  answer-one o o' a b = best-one σ rank (λ w. Reaches B w z s) o o' a b

-- .. whichever its words are
pub words-terminals : (breaks : Bool) (B : Tables) (s z : ℕ) (w : List ℕ) → WordsOf breaks B s z w → Terminals B w
words-terminals false B s z w r = r.terminals
words-terminals true B s z w b = b.terminals

pub answer-rank : (breaks : Bool) (σ : Scale) {rank rank' : ℕ → ℕ} (B : Tables) → RankAlike rank rank' B → (s z : ℕ) (o : Outcome)
    → AnswerAs breaks σ rank B s z o → AnswerAs breaks σ rank' B s z o
answer-rank breaks σ B f s z o a = best-alike σ f (words-terminals breaks B s z) o a
