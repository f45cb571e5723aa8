-- A run: the machine under the limits, how it ends, and what the call answers and leaves. Assumes nothing.
use Rattle.number.specs.declared.cause.Cause.{Cause}
use Rattle.number.specs.declared.cause.Refusal.{Refusal}
use Rattle.std.specs.Prelude.{Result, Ok, Err, Bool, true, false, cond, ◌&&◌, List, [], ◌∷◌, ◌++◌, reverse, length, get_or, drop, replicate, ℕ, zero, suc, ◌-◌, ltb, leb}
use Rattle.book.specs.{Book.of_cells, Book.checked, Call.admits, Tables.Tables, Tables.tables_of, declared.Sizes.Sizes}
use Rattle.machine.specs.Machine.{Move, accepts, fails, breaks, shifts, reduces, next}
use Rattle.machine.specs.declared.{Stop.Stop, Ending.Ending}

-- 'It ends .. with the top state, the symbol looked at and how many were taken in'
abbrev pub stopped : List ℕ → ℕ → ℕ → Stop
stopped st a taken = record { state = get_or st 0 0; symbol = a; taken = taken }

-- .. which every ending holds
abbrev pub stop_of : Ending → Stop
stop_of (Ending.Accepted stop) = stop
stop_of (Ending.Error stop) = stop
stop_of (Ending.Broken stop) = stop
stop_of (Ending.Passed stop) = stop
stop_of (Ending.Deep stop) = stop
stop_of (Ending.Spinning stop) = stop

-- what comes of a move with so many reductions left: an ending or a shift to do, with 'the stack before the step that was not taken'; or,
-- only if one is left, the stack after a reduction
pub data Limited : ℕ → Type 0 where
  stops : {left : ℕ} → Ending → List ℕ → Limited left
  to_shift : {left : ℕ} → ℕ → List ℕ → Limited left
  reduced_to : {k : ℕ} → List ℕ → Limited (suc k)

-- 'Accept, error and a broken reduction end it'; 'Spinning: 4,096 reductions were done since the last shift, or the start, and a further
-- one can be done'; 'Deep: a push would make 1,025 states'; 'Before a reduction the order is broken, spinning, deep'
abbrev pub limited : (left : ℕ) → Stop → List ℕ → Move → Limited left
limited left stop st accepts = stops (Ending.Accepted stop) st
limited left stop st fails = stops (Ending.Error stop) st
limited left stop st breaks = stops (Ending.Broken stop) st
limited left stop st (shifts s) = to_shift s st
limited zero stop st (reduces new) = stops (Ending.Spinning stop) st
limited (suc k) stop st (reduces new) = cond (ltb 1024 (length new)) (stops (Ending.Deep stop) st) (reduced_to new)

-- the reductions before the symbol a, one after the other: what comes of the first move that is none, or one too many
unfoldable pub reducing : Tables → ℕ → ℕ → ℕ → List ℕ → Limited 0
reducing B a taken zero st = limited zero (stopped st a taken) st (next B st a)
reducing B a taken (suc k) st =
    elim (limited (suc k) (stopped st a taken) st (next B st a))
    [ stops e top ↦ stops e top | to_shift s top ↦ to_shift s top | reduced_to new ↦ reducing B a taken k new ]

-- the run from a stack on, with the symbols still to come before the lookahead z; each symbol has its own 4,096 reductions. 'Shift takes
-- the symbol in and pushes the state'; 'passed (all of w is in and z would be shifted, however full the stack)'
unfoldable pub runs : Tables → ℕ → List ℕ → ℕ → List ℕ → Ending × List ℕ
runs B z [] taken st =
    elim (reducing B z taken 4096 st) [ stops e top ↦ (e, top) | to_shift s top ↦ (Ending.Passed (stopped top z taken), top) ]
runs B z (a ∷ w) taken st =
    elim (reducing B a taken 4096 st) [
      | stops e top ↦ (e, top)
      | to_shift s top ↦
          elim (ltb 1024 (length (s ∷ top))) [ true ↦ (Ending.Deep (stopped top a taken), top) | false ↦ runs B z w (suc taken) (s ∷ top) ]
    ]

-- 'A sentence w is up to 1,000 symbols from 1 to T - 1': how many stand before the first that 'is 0, or T or more'
abbrev pub sound_prefix : ℕ → List ℕ → ℕ
sound_prefix T [] = 0
sound_prefix T (a ∷ w) = cond (leb 1 a && ltb a T) (suc (sound_prefix T w)) 0

-- the refusals after the book's, in their order: '8 a sentence has over 1,000 symbols', '7 a symbol is 0, or T or more', '11 lookahead T or
-- more', '13 work or stack cells too few'
unfoldable pub run_refusals : List ℕ → ℕ → ℕ → Sizes → List (Bool × Cause × ℕ)
run_refusals w z room d =
    (ltb 1000 (length w), Cause.Length, 0)
    ∷ (ltb (sound_prefix d.t w) (length w), Cause.Symbol, sound_prefix d.t w)
    ∷ (leb d.t z, Cause.Lookahead, 0)
    ∷ (ltb room 1024, Cause.Room, 0)
    ∷ []

-- 'The first 1,024 cells then hold the stack before the step that was not taken, bottom first, then zeros'; later ones keep their values
abbrev pub stack_left : List ℕ → List ℕ → List ℕ
stack_left st lent = reverse st ++ replicate (1024 - length st) 0 ++ drop 1024 lent

-- what `run` answers and leaves in the lent stack cells. 'The stack starts as state 0 alone'; a refusal 'leaves all lent memory as it found it'
unfoldable pub running : List ℕ → List ℕ → ℕ → List ℕ → Result Ending Refusal × List ℕ
running cells w z lent =
    elim (admits (checked (of_cells cells)) (run_refusals w z (length lent)))
    [ Err r ↦ (Err r, lent) | Ok d ↦ let (e, st) = runs (tables_of cells) z w 0 (0 ∷ []) in (Ok e, stack_left st lent) ]
