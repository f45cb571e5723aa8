-- The judgement of a list of sentences: after its entries in turn the states without one; and what the call answers and leaves. Assumes nothing.
use Rattle.std.specs.Prelude.{Result, Ok, Err, Bool, true, cond, not, ◌&&◌, List, [], ◌∷◌, length, replicate, ◌≡◌, ℕ, zero, suc, ◌<◌, ltb}
use Rattle.number.specs.{Lent.over, declared.cause.Cause.Cause, declared.cause.Refusal.Refusal}
use Rattle.book.specs.{Book.of_cells, Book.checked, Call.admits, Call.Concludes, Range.among, Tables.Tables, Tables.tables_of, declared.Sizes.Sizes}
use Rattle.failing.specs.Failing.{FailingPair, Decides}
use Rattle.work.specs.Work.{work_cells, cleared}
use Rattle.lists.specs.{List.Listed, List.entries, List.refused, List.list_in, declared.Entry.Entry}
use Rattle.items.specs.Items.{items}
use Rattle.course.specs.{Course.Course, Course.fault, Course.clean, Course.course, declared.Judgement.Judgement}

-- ---- the states
-- a state 'that has a failing pair'
abbrev pub Fails : Tables → ℕ → Type 0
Fails B s = (z : ℕ) × FailingPair B s z

-- which states have one
abbrev pub DecidesFails : Tables → (ℕ → Bool) → Type 0
DecidesFails B fails = (s : ℕ) → s < B.states → Decides (fails s) (Fails B s)

-- 'uncovered, with the lowest state' that lacks an entry, of k states from s on, 'or else complete'
unfoldable pub lowest_state : (ℕ → Bool) → ℕ → ℕ → Judgement
lowest_state lacks zero s = Judgement.Complete
lowest_state lacks (suc k) s = cond (lacks s) (Judgement.Uncovered s) (lowest_state lacks k (suc s))

-- '.. that has a failing pair and no entry'
abbrev pub uncovered : (ℕ → Bool) → List ℕ → ℕ → Bool
uncovered fails states s = fails s && not (among s states)

-- the judgement of entries that took this course: the first fault; 'Without a fault it is uncovered .. or else complete'
pub data Judged (B : Tables) (c : Course) : Judgement → Type 0 where
  faulty : (j : Judgement) → c ≡ fault j → Judged B c j
  faultless : (states : List ℕ) (fails : ℕ → Bool) → c ≡ clean states → DecidesFails B fails → Judged B c (lowest_state (uncovered fails states) B.states 0)

-- ---- the call
-- the refusals after the book's: the list's, then '13 work or stack cells too few', the work cells first. 'Any other call that needs work or
-- stack cells is lent at least as many as the finder or a run'
unfoldable pub judge_refusals : Listed → ℕ → ℕ → Sizes → List (Bool × Cause × ℕ)
judge_refusals (refused r) work stack d = (true, r.cause, r.place) ∷ []
judge_refusals (entries es end) work stack d = (ltb work (work_cells d), Cause.Room, 0) ∷ (ltb stack 1024, Cause.Room, 0) ∷ []

-- the right judgement of the list, where by request 6 order counts
abbrev pub JudgedIn : List ℕ → List ℕ → Judgement → Type 0
JudgedIn cells bytes j = (es : List Entry) × (end : ℕ) × (list_in cells bytes ≡ entries es end) × Judged (tables_of cells) (course true (tables_of cells) 0 [] (items bytes es)) j

-- what `judge` answers and leaves in the work cells and in the stack cells: it 'leaves that many zero'
abbrev pub Judges : List ℕ → List ℕ → List ℕ → List ℕ → Result Judgement Refusal × (List ℕ × List ℕ) → Type 0
Judges cells bytes work stack =
    Concludes (admits (checked (of_cells cells)) (judge_refusals (list_in cells bytes) (length work) (length stack))) Err (work, stack)
    (λ d. JudgedIn cells bytes)
    (λ d j. (Ok j, (cleared d work, over (replicate 1024 0) stack)))
