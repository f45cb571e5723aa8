-- The answers as numbers, for callers in other languages. Assumes nothing.
use Rattle.lists.specs.declared.Entry.{Entry}
use Rattle.lists.specs.declared.Rest.{Rest}
use Rattle.book.specs.declared.Sizes.{Sizes}
use Rattle.std.specs.Prelude.{Result, Option, Ok, Err, Some, None, List, [], ◌∷◌, ◌++◌, take, replicate, ℕ}
use Rattle.number.specs.{Cause.number_of, Lent.over, declared.cause.Refusal.Refusal}
use Rattle.book.specs.{Call.Tells}
use Rattle.machine.specs.{Run.stop_of, declared.Ending.Ending, declared.Stop.Stop}
use Rattle.finder.specs.declared.Found.{Found}
use Rattle.course.specs.declared.Judgement.{Judgement}
use Rattle.sorting.specs.declared.Unsorted.{Unsorted}
use Rattle.joining.specs.declared.{Unjoined.Unjoined, Which.Which}
use Rattle.certificate.specs.{Certificate.order, declared.Verdict.Verdict}

-- 'Where an answer is an enum, a definition gives this paper's number and values for each of its cases': eight numbers, the kind first
-- and then its values, 0 where there is none
abbrev pub eight : List ℕ → List ℕ
eight values = over values (replicate 8 0)

-- kind 0: 'a refusal is a number and a place'
abbrev pub told_refusal : Refusal → List ℕ
told_refusal r = eight (0 ∷ number_of r.cause ∷ r.place ∷ [])

-- how many cells or bytes were written
abbrev pub told_written : Result ℕ Refusal → List ℕ
told_written (Err r) = told_refusal r
told_written (Ok n) = eight (1 ∷ n ∷ [])

-- the sizes of a valid book: T, N, S, P; then its form
abbrev pub told_checked : Result Sizes Refusal → List ℕ
told_checked (Err r) = told_refusal r
told_checked (Ok d) = eight (1 ∷ d.t ∷ d.n ∷ d.s ∷ d.p ∷ d.form ∷ [])

-- 'It ends as accepted, error, broken, passed, deep or spinning': the kind
abbrev pub kind_of : Ending → ℕ
kind_of (Ending.Accepted stop) = 1
kind_of (Ending.Error stop) = 2
kind_of (Ending.Broken stop) = 3
kind_of (Ending.Passed stop) = 4
kind_of (Ending.Deep stop) = 5
kind_of (Ending.Spinning stop) = 6

-- 'with the top state, the symbol looked at and how many were taken in'
abbrev pub told_ended : ℕ → Stop → List ℕ
told_ended kind stop = eight (kind ∷ stop.state ∷ stop.symbol ∷ stop.taken ∷ [])

abbrev pub told_ran : Result Ending Refusal → List ℕ
told_ran (Err r) = told_refusal r
told_ran (Ok e) = told_ended (kind_of e) (stop_of e)

-- 'For one pair the finder answers unreached, long or else a sentence', told by its length; of a reduction that breaks none, long or else a sentence
abbrev pub told_found : Result Found Refusal → List ℕ
told_found (Err r) = told_refusal r
told_found (Ok Found.Unreached) = eight (1 ∷ [])
told_found (Ok Found.Long) = eight (2 ∷ [])
told_found (Ok (Found.Sentence n)) = eight (3 ∷ n ∷ [])

-- where the first entry of a list begins, and how many there are
abbrev pub told_listed : Result Rest Refusal → List ℕ
told_listed (Err r) = told_refusal r
told_listed (Ok rest) = eight (1 ∷ rest.at ∷ rest.left ∷ [])

-- an entry: where its symbols begin, how many, its lookahead, its article number; 'after the last it gives none'
abbrev pub told_entry : Result (Option Entry) Refusal → List ℕ
told_entry (Err r) = told_refusal r
told_entry (Ok (Some e)) = eight (1 ∷ e.start ∷ e.len ∷ e.lookahead ∷ e.article ∷ [])
told_entry (Ok None) = eight (2 ∷ [])

-- the next entry as above, then the offset after it and 'how many remain'
abbrev pub told_next : Option (Entry × Rest) → List ℕ
told_next (Some (e, rest)) = eight (1 ∷ e.start ∷ e.len ∷ e.lookahead ∷ e.article ∷ rest.at ∷ rest.left ∷ [])
told_next None = eight (2 ∷ [])

-- 'A wrong entry's judgement carries the ending of its run'
abbrev pub told_wrong : ℕ → ℕ → Stop → List ℕ
told_wrong i kind stop = eight (4 ∷ i ∷ kind ∷ stop.state ∷ stop.symbol ∷ stop.taken ∷ [])

abbrev pub told_judgement : Judgement → List ℕ
told_judgement Judgement.Complete = eight (1 ∷ [])
told_judgement (Judgement.Uncovered s) = eight (2 ∷ s ∷ [])
told_judgement (Judgement.Repeat i) = eight (3 ∷ i ∷ [])
told_judgement (Judgement.Wrong i e) = told_wrong i (kind_of e) (stop_of e)
told_judgement (Judgement.OutOfOrder i) = eight (5 ∷ i ∷ [])

abbrev pub told_judged : Result Judgement Refusal → List ℕ
told_judged (Err r) = told_refusal r
told_judged (Ok j) = told_judgement j

-- 'A converter sorts any list with no wrong or repeated entry and else gives the old judgement': how many bytes the sorted list has, or the
-- judgement
abbrev pub told_sorted : Result ℕ Unsorted → List ℕ
told_sorted (Err (Unsorted.Refused r)) = told_refusal r
told_sorted (Err (Unsorted.Fault j)) = told_judgement j
told_sorted (Ok n) = eight (1 ∷ n ∷ [])

-- 'and say which list's it is': 1 or 2 in the last of the numbers
abbrev pub list_of : Which → ℕ
list_of Which.First = 1
list_of Which.Second = 2

abbrev pub of_list : Which → List ℕ → List ℕ
of_list which numbers = take 7 numbers ++ (list_of which ∷ [])

-- how many bytes the joined list has, or the judgement or refusal of a list, and which; 0 for the book
abbrev pub told_joined : Result ℕ Unjoined → List ℕ
told_joined (Err (Unjoined.Refused r)) = told_refusal r
told_joined (Err (Unjoined.ListRefused which r)) = of_list which (told_refusal r)
told_joined (Err (Unjoined.Fault which j)) = of_list which (told_judgement j)
told_joined (Ok n) = eight (1 ∷ n ∷ [])

-- accepted; or 'The fault told is the first condition in this order .. with the lowest claim's index': the condition's number, from 0 for a
-- claim over 1,002, and then the index
abbrev pub told_verdict : Result Verdict Refusal → List ℕ
told_verdict (Err r) = told_refusal r
told_verdict (Ok Verdict.Accepted) = eight (1 ∷ [])
told_verdict (Ok (Verdict.Fault k i)) = eight (2 ∷ order k ∷ i ∷ [])

-- an answer that is right, with what lent memory holds after the call, and its numbers
abbrev pub Told : {Answer Lent : Type 0} → (Answer × Lent → Type 0) → (Answer → List ℕ) → List ℕ → Lent → Type 0
Told Right tell numbers left = Tells (λ r. Right (r, left)) tell numbers
