-- The entries of a list in turn: their runs, and the first fault. Assumes nothing.
use Rattle.std.specs.Prelude.{Bool, false, cond, ◌&&◌, List, [], ◌∷◌, length, ℕ, suc, ltb, eqb}
use Rattle.book.specs.{Range.among, Tables.Tables}
use Rattle.machine.specs.{Run.runs, Run.stop_of, declared.Ending.Ending}
use Rattle.items.specs.Items.{Item}
use Rattle.course.specs.declared.Judgement.{Judgement}

-- ---- an entry
-- 'the entry's run', under the limits of a run
abbrev pub run_of : Tables → Item → Ending
run_of B x = (runs B x.lookahead x.symbols 0 (0 ∷ [])).0

-- 'wrong if the entry's run does not end as error with its whole sentence in': so many symbols; by request 5 'an ending of broken counts as a
-- failure in the list's judgement'
abbrev pub is_right : ℕ → Ending → Bool
is_right len (Ending.Error stop) = eqb stop.taken len
is_right len (Ending.Accepted stop) = false
is_right len (Ending.Broken stop) = eqb stop.taken len
is_right len (Ending.Passed stop) = false
is_right len (Ending.Deep stop) = false
is_right len (Ending.Spinning stop) = false

-- the state that a run 'ends in'
abbrev pub state_of : Ending → ℕ
state_of e = (stop_of e).state

-- 'the state where they fail'
abbrev pub state_in : Tables → Item → ℕ
state_in B x = state_of (run_of B x)

-- of these entries those that fail in the state
unfoldable pub in_state : Tables → ℕ → List Item → List Item
in_state B s [] = []
in_state B s (x ∷ xs) = cond (eqb (state_in B x) s) (x ∷ in_state B s xs) (in_state B s xs)

-- ---- the entries in turn
-- a fault, or none, with the states that have an entry, the last entry's first
pub data Course : Type 0 where
  fault : Judgement → Course
  clean : List ℕ → Course

-- by request 6 'an entry that fails in a lower state than the one before it'
abbrev pub is_lower : ℕ → List ℕ → Bool
is_lower s [] = false
is_lower s (before ∷ states) = ltb s before

-- the entry of index i, whose run ended so, after entries that ended in these states; what follows it, where it has no fault. 'wrong ..,
-- else repeat if it ends in the state of an earlier one'; by request 6 'out of order, .. after wrong and before repeat', if order counts; 'A
-- wrong entry's judgement carries the ending of its run'
abbrev pub entered : Bool → ℕ → ℕ → List ℕ → Ending → (List ℕ → Course) → Course
entered ordered i len states ending onward =
    cond (is_right len ending)
    (cond (ordered && is_lower (state_of ending) states) (fault (Judgement.OutOfOrder i))
    (cond (among (state_of ending) states) (fault (Judgement.Repeat i)) (onward (state_of ending ∷ states))))
    (fault (Judgement.Wrong i ending))

-- 'The judgement takes entries in turn and stops at the first fault, told with its entry's index from 0': from the entry of index i on.
-- Only a run gives a state an entry, so 'A state whose failing pairs are all long, or fail only past a run's limits, stays uncovered'
unfoldable pub course : Bool → Tables → ℕ → List ℕ → List Item → Course
course ordered B i states [] = clean states
course ordered B i states (x ∷ xs) =
    entered ordered i (length x.symbols) states (run_of B x) (λ more. course ordered B (suc i) more xs)
