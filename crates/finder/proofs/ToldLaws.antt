-- What the call tells of an answer. Assumes nothing.
use Rattle.number.specs.declared.cause.Refusal.{Refusal}
use Rattle.std.specs.Prelude.{Result, Ok, Bool, List, ◌≡◌, ℕ}
use Rattle.std.proofs.Common.{ap}
use Rattle.number.specs.Lent.{over}
use Rattle.book.specs.Call.{Tells}
use Rattle.book.specs.Tables.{Tables}
use Rattle.walk.specs.Answer.{AnswerAs}
use Rattle.walk.specs.Scale.{plain}
use Rattle.finder.specs.Finder.{Answered, found, sentence_of}
use Rattle.finder.specs.declared.Found.{Found}

-- the answer, with the work cells beside it
pub answered-told : (breaks : Bool) (B : Tables) (s z : ℕ) {rank : ℕ → ℕ} {buffer left work worked : List ℕ} {r : Found} → Answered breaks rank B s z buffer r left → worked ≡ work
    → Tells {Told = Result Found Refusal × (List ℕ × List ℕ)} (AnswerAs breaks plain rank B s z) (λ o. (Ok (found o), (work, over (sentence_of o) buffer))) (Ok r, (worked, left))
answered-told breaks B s z {work = work} a e = record {
  thing = a.thing;
  right = a.right;
  same = rw e (ap (λ (p : Found × List ℕ). (Ok p.0, (work, p.1))) a.same);
}
