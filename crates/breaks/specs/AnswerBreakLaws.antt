-- Laws of the answer for a reduction that breaks. Assumes nothing.
use Rattle.std.specs.Prelude.{List, ◌≡◌, ℕ}
use Rattle.book.specs.Tables.{Tables}
use Rattle.book.specs.declared.Action.TheVariants.{Reduce}
use Rattle.walk.specs.Scale.{Scale, long, unreached}
use Rattle.walk.specs.Cost.{Exact}
use Rattle.walk.proofs.CostLaws.{exact_none}
use Rattle.walk.specs.Breaks.{Breaks}
use Rattle.walk.specs.Answer.{Outcome, Unreached, Long, AnswerBreak}
use Rattle.walk.specs.AnswerLaws.{mapped}
use Rattle.walk.proofs.AnswerLaws.{best-exact, best_none, best-long, best-one}
use Rattle.breaks.specs.BreakingLaws.{breaks-reduce}

-- only a reduce action breaks
module _ {B : Tables} {s z : ℕ} (none : (p : ℕ) → ¬ (B.act s z ≡ Reduce p)) where
  pub no-break : (w : List ℕ) → ¬ Breaks B w z s
  no-break w b = let (p, e) = breaks-reduce b in none p e

  pub no-break-exact : {σ : Scale} → Exact σ (λ w. Breaks B w z s) (unreached σ)
  no-break-exact = exact_none.1 no-break

-- at most one answer is right, its length is exact, and the two marks decide unreached and long
module _ (σ : Scale) (rank : ℕ → ℕ) (B : Tables) (s z : ℕ) where
  pub answer-break-one : (o o' : Outcome) → AnswerBreak σ rank B s z o → AnswerBreak σ rank B s z o' → o ≡ o'
  answer-break-one o o' a b = best-one σ rank (λ w. Breaks B w z s) o o' a b

  pub answer-break-exact : (o : Outcome) → AnswerBreak σ rank B s z o → Exact σ (λ w. Breaks B w z s) (mapped σ o)
  answer-break-exact o a = best-exact σ rank (λ w. Breaks B w z s) o a

  pub answer-break-none : Exact σ (λ w. Breaks B w z s) (unreached σ) → AnswerBreak σ rank B s z Unreached
  answer-break-none e = best_none σ rank (λ w. Breaks B w z s) e

  pub answer-break-long : Exact σ (λ w. Breaks B w z s) (long σ) → AnswerBreak σ rank B s z Long
  answer-break-long e = best-long σ rank (λ w. Breaks B w z s) e
