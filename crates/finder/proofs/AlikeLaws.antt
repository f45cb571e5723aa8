-- The sentences of books that differ in no more than form are the same. Assumes nothing.
use Rattle.number.specs.declared.cause.Refusal.{Refusal}
use Rattle.std.specs.Prelude.{Result, Ok, Err, Bool, List, ◌≡◌, ℕ, ◌<◌, length}
use Rattle.std.proofs.Common.{sym}
use Rattle.std.proofs.Math.Path.{ap}
use Rattle.number.specs.Lent.{over}
use Rattle.book.specs.CallLaws.{concludes-alike}
use Rattle.book.specs.Tables.{tables_of, rank_of}
use Rattle.book.specs.TablesLaws.{Accepted}
use Rattle.book.specs.declared.Sizes.{Sizes}
use Rattle.forms.specs.AlikeLaws.{Alike}
use Rattle.forms.proofs.AlikeLaws.{alike-tables, alike-sizes, form2-alike, form2-ranks}
use Rattle.forms.specs.Forms.{in_form_2}
use Rattle.forms.specs.FormsLaws.{with_form}
use Rattle.forms.proofs.FormsLaws.{plain-holds, plain-tables}
use Rattle.walk.specs.Answer.{Outcome, AnswerAs}
use Rattle.walk.proofs.AnswerLaws.{answer-rank}
use Rattle.walk.specs.Scale.{plain}
use Rattle.layers.specs.CrossingLaws.{terminals-are}
use Rattle.work.specs.Work.{cleared}
use Rattle.finder.specs.Finder.{found, sentence_of, pair_refusals, FindsAs}
use Rattle.finder.specs.declared.Found.{Found}

module _ (d e : Sizes) (cells other : List ℕ) (a : Alike d e cells other) (breaks : Bool) where
  tables : tables_of cells ≡ tables_of other
  tables = alike-tables d e cells other a

  pair-refusals : (s z work buffer : ℕ) → pair_refusals s z work buffer d ≡ pair_refusals s z work buffer e
  unfolding pair_refusals
  pair-refusals s z work buffer = ap (pair_refusals s z work buffer) (alike-sizes d e cells other a)

  -- where the ranks are the same, so is the sentence of each pair
  pub finds-alike : ((b : ℕ) → b < d.t → rank_of cells b ≡ rank_of other b) → (s z : ℕ) (work buffer : List ℕ) (end : Result Found Refusal × (List ℕ × List ℕ))
      → FindsAs breaks cells s z work buffer end → FindsAs breaks other s z work buffer end
  finds-alike same s z work buffer end c =
      let refusals = pair-refusals s z (length work) (length buffer) in
      let counted : (tables_of other).terminals ≡ d.t = rw (← tables, ← plain-tables d cells a.first) (terminals-are (plain-holds d cells a.first)) in
      let right : (o : Outcome) → AnswerAs breaks plain (rank_of cells) (tables_of cells) s z o → AnswerAs breaks plain (rank_of other) (tables_of other) s z o =
      λ o r. answer-rank breaks plain (tables_of other) (λ b some l. same b (rw counted at l)) s z o (rw tables at r) in
      let told : (o : Outcome) → ◌≡◌ {A = Result Found Refusal × (List ℕ × List ℕ)} (Ok (found o), (cleared d work, over (sentence_of o) buffer)) (Ok (found o), (cleared e work, over (sentence_of o) buffer)) =
      λ o. ap (λ (x : Sizes). (Ok (found o), (cleared x work, over (sentence_of o) buffer))) (alike-sizes d e cells other a) in
      rw a.second
      (concludes-alike (pair_refusals s z (length work) (length buffer) e) d e Err (work, buffer) _ _ _ _ end right told (rw (a.first, refusals) at c))

-- so a book and its form 2 have the same sentences
pub finds-form2 : (breaks : Bool) (d : Sizes) (cells : List ℕ) → Accepted d cells → (s z : ℕ) (work buffer : List ℕ) (end : Result Found Refusal × (List ℕ × List ℕ))
    → FindsAs breaks cells s z work buffer end → FindsAs breaks (in_form_2 cells) s z work buffer end
finds-form2 breaks d cells e = finds-alike d (with_form 2 d) cells (in_form_2 cells) (form2-alike d cells e) breaks (λ b l. sym (form2-ranks d cells e b l))
