-- Laws of lines. Assumes nothing.
use Rattle.std.specs.Prelude.{Bool, not, List, [], ◌∷◌, ◌++◌, ◌≡◌, refl, ℕ, ◌+◌, length}
use Rattle.std.proofs.Common.{append_assoc, sym, ◌∙◌, ap, subst, arith, length-append}
use Rattle.std.proofs.lemmas.List.Edits.{sets}
use Rattle.std.proofs.Math.Seq.{take-append_seam}
use Rattle.number.specs.Lent.{over}
use Rattle.book.specs.Tables.{Tables}
use Rattle.walk.specs.Answer.{Outcome, Best, WordsOf, Unreached as Never, Long as Far, Sentence as Word}
use Rattle.walk.proofs.AnswerLaws.{best-one}
use Rattle.walk.specs.Scale.{plain}
use Rattle.walk.proofs.ShortestLaws.{cost-length}
use Rattle.failing.specs.Failing.{is_error}
use Rattle.finder.specs.Finder.{Answered, found, sentence_of}
use Rattle.finder.specs.declared.Found.{Found}
use Rattle.text.specs.Decimal.{decimal}
use Rattle.lines.specs.Line.{told, pair_line, PairListed}
use Rattle.text.specs.Text.{spaced, line}
use Rattle.lines.specs.Parts.{words, Fitting}
use Rattle.text.specs.Put.{Put}

-- pieces one after the other are a line
pub pair-words : (a b : List ℕ) (ws : List (List ℕ)) → (a ++ 32 ∷ b) ++ (spaced ws ++ 10 ∷ []) ≡ line a (b ∷ ws)
pair-words a b ws = simp append_assoc

outcome-words : (o : Outcome) (buffer : List ℕ) → words (found o) (over (sentence_of o) buffer) ≡ told o
outcome-words Never buffer = refl
outcome-words Far buffer = refl
outcome-words (Word w) buffer = rw take-append_seam

outcome_fits : (P : List ℕ → Type 0) (rank : ℕ → ℕ) (o : Outcome) (buffer : List ℕ) → Best plain rank P o → Fitting (found o) (over (sentence_of o) buffer)
outcome_fits P rank Never buffer a = tt
outcome_fits P rank Far buffer a = tt
outcome_fits P rank (Word w) buffer a = (omega (arith, a.1, cost-length w), simp length-append (omega arith))

module _ (breaks : Bool) (B : Tables) (s z : ℕ) {rank : ℕ → ℕ} {buffer left : List ℕ} {r : Found} where
  told-as : (a : Answered breaks rank B s z buffer r left) → (r ≡ found a.thing) × (left ≡ over (sentence_of a.thing) buffer)
  told-as a = (ap (λ (p : Found × List ℕ). p.0) a.same, ap (λ (p : Found × List ℕ). p.1) a.same)

  answered-words : (a : Answered breaks rank B s z buffer r left) → words r left ≡ told a.thing
  answered-words a = rw ((told-as a).0, (told-as a).1) (outcome-words a.thing buffer)

  pub answered-fits : Answered breaks rank B s z buffer r left → Fitting r left
  answered-fits a = rw ((told-as a).0, (told-as a).1) (outcome_fits (WordsOf breaks B s z) rank a.thing buffer a.right)

  pub answered-line : {lent now : List ℕ} {at next : ℕ} → breaks ≡ not (is_error (B.act s z)) → Answered breaks rank B s z buffer r left
      → Put ((decimal s ++ 32 ∷ decimal z) ++ (spaced (words r left) ++ 10 ∷ [])) lent at now next → PairListed rank B s z buffer lent at left now next
  answered-line {lent} {now} {at} {next} same a p =
      let e = pair-words (decimal s) (decimal z) (words r left) ∙ ap (λ (ws : List (List ℕ)). line (decimal s) (decimal z ∷ ws)) (answered-words a) in
      record { outcome = a.thing; right = rw same at a.right; front = (told-as a).1; put = subst (λ (l : List ℕ). Put l lent at now next) e p }

-- at most one line is right
pub line-one : {rank : ℕ → ℕ} {B : Tables} {s z at next next' : ℕ} {buffer lent filled filled' left left' : List ℕ} → PairListed rank B s z buffer lent at filled left next
    → PairListed rank B s z buffer lent at filled' left' next' → (filled ≡ filled') × (left ≡ left') × (next ≡ next')
line-one {rank} {B} {s} {z} {at} {buffer = buffer} {lent = lent} x y =
    let same = best-one plain rank (WordsOf (not (is_error (B.act s z))) B s z) x.outcome y.outcome x.right y.right in (
      x.front ∙ ap (λ (o : Outcome). over (sentence_of o) buffer) same ∙ sym y.front,
      x.put.stored ∙ ap (λ (o : Outcome). sets lent at (pair_line s z o)) same ∙ sym y.put.stored,
      x.put.after ∙ ap (λ (o : Outcome). at + length (pair_line s z o)) same ∙ sym y.put.after,
    )
