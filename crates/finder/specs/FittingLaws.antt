-- Laws of an answer and what it leaves in the buffer. Assumes nothing.
use Rattle.std.specs.Prelude.{Bool, List, ◌≡◌, ℕ}
use Rattle.std.proofs.Common.{ap, arith, length-append}
use Rattle.number.specs.Lent.{over}
use Rattle.book.specs.Tables.{Tables}
use Rattle.walk.specs.Answer.{Outcome, Best, WordsOf, Unreached as Never, Long as Far, Sentence as Word}
use Rattle.walk.specs.Scale.{plain}
use Rattle.walk.proofs.ShortestLaws.{cost-length}
use Rattle.finder.specs.Finder.{Answered, found, sentence_of}
use Rattle.finder.specs.Fitting.{Fitting}
use Rattle.finder.specs.declared.Found.{Found}

outcome_fits : (P : List ℕ → Type 0) (rank : ℕ → ℕ) (o : Outcome) (buffer : List ℕ) → Best plain rank P o → Fitting (found o) (over (sentence_of o) buffer)
outcome_fits P rank Never buffer a = tt
outcome_fits P rank Far buffer a = tt
outcome_fits P rank (Word w) buffer a = (omega (arith, a.1, cost-length w), simp length-append (omega arith))

module _ (breaks : Bool) (B : Tables) (s z : ℕ) {rank : ℕ → ℕ} {buffer left : List ℕ} {r : Found} where
  pub told-as : (a : Answered breaks rank B s z buffer r left) → (r ≡ found a.thing) × (left ≡ over (sentence_of a.thing) buffer)
  told-as a = (ap (λ (p : Found × List ℕ). p.0) a.same, ap (λ (p : Found × List ℕ). p.1) a.same)

  pub answered-fits : Answered breaks rank B s z buffer r left → Fitting r left
  answered-fits a = rw ((told-as a).0, (told-as a).1) (outcome_fits (WordsOf breaks B s z) rank a.thing buffer a.right)
