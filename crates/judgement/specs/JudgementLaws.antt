-- Laws of the judgement: at most one is right. Assumes nothing.
use Rattle.std.specs.Prelude.{Result, Ok, Err, true, List, [], ◌≡◌, ℕ, length, replicate}
use Rattle.std.proofs.Common.{arith}
use Rattle.number.specs.Lent.{over}
use Rattle.number.specs.declared.cause.Refusal.{Refusal}
use Rattle.book.specs.Book.{of_cells, checked}
use Rattle.book.specs.Call.{admits}
use Rattle.book.specs.CallLaws.{concludes-one}
use Rattle.book.specs.Tables.{Tables, tables_of}
use Rattle.machine.specs.MachineLaws.{clash}
use Rattle.lists.specs.List.{list_in}
use Rattle.failing.specs.FailingLaws.{decides-one}
use Rattle.work.specs.Work.{cleared}
use Rattle.items.specs.Items.{items}
use Rattle.course.specs.Course.{Course, course}
use Rattle.course.specs.declared.Judgement.{Judgement}
use Rattle.judgement.specs.CoverageLaws.{lowest-same}
use Rattle.judgement.specs.Judgement.{uncovered, Judged, faulty, faultless, judge_refusals, JudgedIn, Judges}

pub one-judgement : {B : Tables} {c : Course} {j k : Judgement} → Judged B c j → Judged B c k → j ≡ k
one-judgement (faulty j e) (faulty k f) = cc
one-judgement (faulty j e) (faultless states fails f x) = absurd (clash cc)
one-judgement (faultless states fails f x) (faulty k e) = absurd (clash cc)
one-judgement {B} (faultless states f e x) (faultless others g k y) =
    let same : states ≡ others = cc in
    rw same (lowest-same (uncovered f others) (uncovered g others) B.states 0 (λ s h. rw (decides-one (x s (omega arith)) (y s (omega arith)))))

-- .. and so what `judge` answers and leaves is one
judged-one : (cells bytes : List ℕ) (j k : Judgement) → JudgedIn cells bytes j → JudgedIn cells bytes k → j ≡ k
judged-one cells bytes j k (es, end, e, x) (others, last, f, y) =
    let same : es ≡ others = cc in
    let z : Judged (tables_of cells) (course true (tables_of cells) 0 [] (items bytes others)) j = rw same at x in
    one-judgement z y

pub one_answer : (cells bytes work stack : List ℕ) (end other : Result Judgement Refusal × (List ℕ × List ℕ)) → Judges cells bytes work stack end
    → Judges cells bytes work stack other → end ≡ other
one_answer cells bytes work stack end other =
    concludes-one (admits (checked (of_cells cells)) (judge_refusals (list_in cells bytes) (length work) (length stack))) Err (work, stack)
    (λ d. JudgedIn cells bytes)
    (λ d j. (Ok j, (cleared d work, over (replicate 1024 0) stack)))
    end
    other
    (λ d. judged-one cells bytes)
