-- The table of Bracket's list, proved by computation: in each of its states an entry of the list fails. Assumes nothing.
use Rattle.std.specs.Prelude.{true, List, [], ◌∷◌, ◌≡◌, refl, ℕ, zero, suc, ◌<◌, length}
use Rattle.std.proofs.Common.{arith}
use Rattle.number.specs.Number.{number_at, first}
use Rattle.book.specs.Action.{action_of}
use Rattle.book.specs.Book.{of_cells, book_in, row, parts_in, cell_at}
use Rattle.book.specs.Range.{allowed, fits, fault, fault_cause}
use Rattle.book.specs.Tables.{Tables, tables_of, sizes_of}
use Rattle.machine.specs.Machine.{Terminals, none, more, next}
use Rattle.machine.specs.Run.{runs, reducing}
use Rattle.walk.specs.Stars.{bracket}
use Rattle.lists.specs.Entry.{outside, entry_at}
use Rattle.lists.specs.List.{entries_at, list_of, list_in}
use Rattle.items.specs.Items.{Item}
use Rattle.course.specs.Course.{course, is_right, run_of, state_in}
use Rattle.judgement.specs.EntryLaws.{right-fails}
use Rattle.judgement.specs.Judgement.{Fails, DecidesFails, lowest_state, faultless}
use Rattle.coverage.specs.Examples.{bracket_list, shortened, list_lines, AllJudged}

abbrev B : Tables
B = tables_of bracket

-- an entry shows that the state where it fails has a failing pair
entry-fails : (x : Item) → Terminals B x.symbols → x.lookahead < B.terminals → is_right (length x.symbols) (run_of B x) ≡ true → Fails B (state_in B x)
entry-fails x t h r = (x.lookahead, record { terminal = h; word = x.symbols; fails = right-fails x t r })

abbrev entry : List ℕ → ℕ → Item
entry w z = record { symbols = w; lookahead = z; article = 0 }

-- so each of the six has one
state-fails : (s : ℕ) → s < 6 → Fails B s
unfolding bracket tables_of sizes_of action_of next reducing runs
state-fails zero h = entry-fails (entry [] 0) none (omega arith) refl
state-fails (suc zero) h = entry-fails (entry (1 ∷ []) 1) (more (omega arith) (omega arith) none) (omega arith) refl
state-fails (suc (suc zero)) h = entry-fails (entry (2 ∷ []) 0) (more (omega arith) (omega arith) none) (omega arith) refl
state-fails (suc (suc (suc zero))) h = entry-fails (entry (1 ∷ []) 3) (more (omega arith) (omega arith) none) (omega arith) refl
state-fails (suc (suc (suc (suc zero)))) h = entry-fails (entry (2 ∷ 1 ∷ []) 0) (more (omega arith) (omega arith) (more (omega arith) (omega arith) none)) (omega arith) refl
state-fails (suc (suc (suc (suc (suc zero))))) h =
    entry-fails (entry (2 ∷ 1 ∷ 3 ∷ []) 1) (more (omega arith) (omega arith) (more (omega arith) (omega arith) (more (omega arith) (omega arith) none))) (omega arith) refl
state-fails (suc (suc (suc (suc (suc (suc s)))))) h = absurd (omega arith)

all-fail : DecidesFails B (λ s. true)
unfolding bracket tables_of sizes_of
all-fail s h = (λ e. state-fails s h, λ f. refl)

pub list-lines : AllJudged list_lines
unfolding list_lines bracket_list shortened bracket list_in list_of entries_at entry_at outside number_at first of_cells book_in row parts_in cell_at fault fault_cause fits allowed action_of sizes_of tables_of next reducing runs course lowest_state
list-lines =
    ((_, _, refl, faultless (5 ∷ 4 ∷ 3 ∷ 2 ∷ 1 ∷ 0 ∷ []) (λ s. true) refl all-fail), ((_, _, refl, faultless (5 ∷ 4 ∷ 3 ∷ 1 ∷ 0 ∷ []) (λ s. true) refl all-fail), tt))
