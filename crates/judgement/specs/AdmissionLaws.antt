-- Laws of what is refused before a list is judged, and of what the call answers after it. Assumes nothing.
use Rattle.std.specs.Prelude.{Result, Ok, Err, true, List, [], ◌++◌, ◌≡◌, ℕ, ◌≤◌, length, drop, replicate}
use Rattle.std.proofs.Common.{sym, ◌∙◌, ap, ltb-false}
use Rattle.number.specs.Lent.{over}
use Rattle.number.specs.declared.cause.Refusal.{Refusal}
use Rattle.book.specs.Book.{of_cells, checked}
use Rattle.book.specs.Call.{steps, admits}
use Rattle.book.specs.CallLaws.{steps-none}
use Rattle.book.specs.Tables.{tables_of}
use Rattle.book.specs.declared.Sizes.{Sizes}
use Rattle.layers.specs.Crossing.{room}
use Rattle.crossings.specs.Crossings.{Beyond}
use Rattle.lists.specs.List.{entries, refused, list_of, list_in, listing}
use Rattle.lists.proofs.ListLaws.{against-on}
use Rattle.lists.specs.declared.Rest.{Rest}
use Rattle.work.specs.Work.{work_cells}
use Rattle.work.specs.WorkLaws.{over_zeros, work-cleared}
use Rattle.items.specs.Items.{items}
use Rattle.course.specs.AcceptedLaws.{ListAccepted, list-refused, accepted-ahead}
use Rattle.course.specs.Course.{course}
use Rattle.course.specs.Turns.{course_at}
use Rattle.course.specs.declared.Judgement.{Judgement}
use Rattle.judgement.specs.Judgement.{judge_refusals, Judged, Judges}

-- ---- the refusals, for a book that was checked
pub judge-room : (work stack : ℕ) (d : Sizes) {x : Sizes} → steps (Ok d) (judge_refusals (entries [] 0) work stack d) ≡ Ok x
    → (work_cells d ≤ work) × (1024 ≤ stack)
unfolding judge_refusals
judge-room work stack d e =
    let (same, (room, (depth, end))) = steps-none (judge_refusals (entries [] 0) work stack d) e in
    (ltb-false _ _ room, ltb-false _ _ depth)

module _ {d : Sizes} (cells bytes : List ℕ) (work stack : ℕ) (h : checked (of_cells cells) ≡ Ok d) where
  refused-list : {r : Refusal} → list_of d.t bytes ≡ refused r → admits (checked (of_cells cells)) (judge_refusals (list_in cells bytes) work stack) ≡ Err r
  unfolding judge_refusals
  refused-list e = rw (h, ← against-on cells bytes d h, e)

  after_list : {rest : Rest} {found : Result Sizes Refusal} → ListAccepted bytes (list_of d.t bytes) rest → steps (Ok d) (judge_refusals (entries [] 0) work stack d) ≡ found
      → admits (checked (of_cells cells)) (judge_refusals (list_in cells bytes) work stack) ≡ found
  unfolding judge_refusals
  after_list a e = rw (h, ← against-on cells bytes d h, a.list) e

-- ---- the call
zeroed-same : (mid stack : List ℕ) → drop 1024 mid ≡ drop 1024 stack → over (replicate 1024 0) mid ≡ over (replicate 1024 0) stack
zeroed-same mid stack e = over_zeros 1024 mid ∙ ap (λ (l : List ℕ). replicate 1024 0 ++ l) e ∙ sym (over_zeros 1024 stack)

module _ {d : Sizes} (cells bytes work stack : List ℕ) (h : checked (of_cells cells) ≡ Ok d) where
  pub judge-unlisted : {r : Refusal} → listing bytes (list_of d.t bytes) ≡ Err r → Judges cells bytes work stack (Err r, (work, stack))
  judge-unlisted e = rw (refused-list cells bytes (length work) (length stack) h (list-refused bytes (list_of d.t bytes) e))

  pub judge-unroomed : {rest : Rest} {r : Refusal} → ListAccepted bytes (list_of d.t bytes) rest
      → steps (Ok d) (judge_refusals (entries [] 0) (length work) (length stack) d) ≡ Err r → Judges cells bytes work stack (Err r, (work, stack))
  judge-unroomed a e = rw (after_list cells bytes (length work) (length stack) h a e)

  pub judge-answered : {rest : Rest} {x : Sizes} {j : Judgement} {n : ℕ} {table done left : List ℕ} (mid : List ℕ)
      → ListAccepted bytes (list_of d.t bytes) rest → steps (Ok d) (judge_refusals (entries [] 0) (length work) (length stack) d) ≡ Ok x
      → Judged (tables_of cells) (course_at true (tables_of cells) d.t bytes rest.at rest.left) j
      → Beyond (room d) work table → n ≡ work_cells d → done ≡ over (replicate n 0) table
      → drop 1024 mid ≡ drop 1024 stack → left ≡ over (replicate 1024 0) mid → Judges cells bytes work stack (Ok j, (done, left))
  judge-answered {j} mid a r y b e f g k =
      let judged : Judged (tables_of cells) (course true (tables_of cells) 0 [] (items bytes a.es)) j = rw (accepted-ahead d.t a) at y in
      rw (after_list cells bytes (length work) (length stack) h a r, ← (steps-none (judge_refusals (entries [] 0) (length work) (length stack) d) r).0)
      (record { thing = j; right = (a.es, a.end, sym (against-on cells bytes d h) ∙ a.list, judged); same = rw (work-cleared d b e f, k ∙ zeroed-same mid stack g) })
