-- The judgement does not depend on form and ranks. Assumes nothing.
use Rattle.std.specs.Prelude.{Result, Ok, Err, List, ◌≡◌, ℕ, length, replicate}
use Rattle.std.proofs.Math.Path.{refl, ap}
use Rattle.std.proofs.Common.{sym, ◌∙◌}
use Rattle.number.specs.Lent.{over}
use Rattle.number.specs.declared.cause.Refusal.{Refusal}
use Rattle.book.specs.CallLaws.{concludes-alike}
use Rattle.book.specs.declared.Sizes.{Sizes}
use Rattle.forms.specs.AlikeLaws.{Alike}
use Rattle.forms.proofs.AlikeLaws.{alike-tables, alike-sizes}
use Rattle.work.specs.Work.{cleared}
use Rattle.lists.specs.List.{Listed, refused, entries, list_in}
use Rattle.lists.proofs.ListLaws.{list-alike}
use Rattle.course.specs.declared.Judgement.{Judgement}
use Rattle.judgement.specs.Judgement.{judge_refusals, JudgedIn, Judges}

module _ (d e : Sizes) (cells other : List ℕ) (a : Alike d e cells other) where
  list_same : (bytes : List ℕ) → list_in cells bytes ≡ list_in other bytes
  list_same bytes = list-alike d e cells other bytes a.first a.second (ap (λ (x : Sizes). x.t) (alike-sizes d e cells other a))

  judge-refusals : (l : Listed) (work stack : ℕ) → judge_refusals l work stack d ≡ judge_refusals l work stack e
  unfolding judge_refusals
  judge-refusals (refused r) work stack = refl
  judge-refusals (entries es end) work stack = ap (judge_refusals (entries es end) work stack) (alike-sizes d e cells other a)

  pub judges-alike : (bytes work stack : List ℕ) (end : Result Judgement Refusal × (List ℕ × List ℕ)) → Judges cells bytes work stack end → Judges other bytes work stack end
  judges-alike bytes work stack end c =
      let right : (j : Judgement) → JudgedIn cells bytes j → JudgedIn other bytes j =
      λ j (es, last, list, judged). (es, last, sym (list_same bytes) ∙ list, rw (alike-tables d e cells other a) at judged) in
      let told : (j : Judgement) → ◌≡◌ {A = Result Judgement Refusal × (List ℕ × List ℕ)} (Ok j, (cleared d work, over (replicate 1024 0) stack)) (Ok j, (cleared e work, over (replicate 1024 0) stack)) =
      λ j. ap (λ (x : Sizes). (Ok j, (cleared x work, over (replicate 1024 0) stack))) (alike-sizes d e cells other a) in
      rw a.second
      (concludes-alike (judge_refusals (list_in other bytes) (length work) (length stack) e) d e Err (work, stack) _ _ _ _ end right told
      (rw (a.first, list_same bytes, judge-refusals (list_in other bytes) (length work) (length stack)) at c))
