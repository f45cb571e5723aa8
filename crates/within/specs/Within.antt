-- What a run brings on top: whether a sentence reaches its pair within a run's limits. Assumes nothing.
use Rattle.std.specs.Prelude.{Bool, true, false, List, [], ◌∷◌, length, ℕ, zero, suc, ltb, eqb}
use Rattle.book.specs.Tables.{Tables}
use Rattle.machine.specs.Machine.{next}
use Rattle.machine.specs.Run.{stops, to_shift, reduced_to, limited, stopped, reducing}

-- 'with s on top'; the stack is top first
abbrev pub on_top : ℕ → List ℕ → Bool
on_top s [] = false
on_top s (q ∷ st) = eqb s q

-- before z, with zero or suc k reductions left: s is on top now, or after a reduction that the run does
unfoldable pub comes : Tables → ℕ → ℕ → ℕ → ℕ → List ℕ → Bool
comes B z s taken zero st = on_top s st
comes B z s taken (suc k) st =
    elim (on_top s st) [
      | true ↦ true
      | false ↦
          elim (limited (suc k) (stopped st z taken) st (next B st z))
          [ stops e top ↦ false | to_shift q top ↦ false | reduced_to new ↦ comes B z s taken k new ]
    ]

-- as `runs` goes from a stack on, with the symbols still to come before z: an ending before all of them are in shows nothing
unfoldable pub brings : Tables → ℕ → ℕ → List ℕ → ℕ → List ℕ → Bool
brings B z s [] taken st = comes B z s taken 4096 st
brings B z s (a ∷ w) taken st =
    elim (reducing B a taken 4096 st) [
      | stops e top ↦ false
      | to_shift q top ↦ elim (ltb 1024 (length (q ∷ top))) [ true ↦ false | false ↦ brings B z s w (suc taken) (q ∷ top) ]
    ]

-- 'reaches its pair within a run's limits': the run of w and z has, at some moment up to its ending, taken in all of w, with s on top
abbrev pub reaches_within : Tables → List ℕ → ℕ → ℕ → Bool
reaches_within B w z s = brings B z s w 0 (0 ∷ [])
