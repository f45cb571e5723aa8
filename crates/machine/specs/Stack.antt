-- How a stack lies in lent cells, and what the parts of a run promise of it. Assumes nothing.
use Rattle.std.specs.Prelude.{cond, ◌≡◌, List, [], ◌∷◌, ◌⊎◌, ℕ, zero, suc, ◌-◌, ◌≤◌, ◌<◌, ltb, length, get_or, drop}
use Rattle.std.proofs.Common.{inl, inr}
use Rattle.book.specs.Tables.{Tables}
use Rattle.machine.specs.Machine.{Move, accepts, fails, breaks, shifts, reduces}
use Rattle.machine.specs.Run.{Limited, stops, to_shift, stopped, reducing, stack_left}
use Rattle.machine.specs.declared.Ending.{Ending}
use Rattle.machine.specs.declared.Seen.{Seen}
use Rattle.machine.specs.declared.Seen.TheVariants.{Accept, Error, Broken, Shift, Reduce}
use Rattle.machine.specs.declared.Turn.{Turn}
use Rattle.machine.specs.declared.Turn.TheVariants.{Ended, Shift as MustShift, Reduce as MustReduce}
use Rattle.machine.specs.declared.Paused.{Paused}
use Rattle.machine.specs.declared.Paused.TheVariants.{Ended as Halted, Shift as Shifting}
use Rattle.machine.specs.declared.Entered.{Entered}
use Rattle.machine.specs.declared.Entered.TheVariants.{Ended as Closed, Depth}

-- the stack in the first n cells, bottom first there, top first here
abbrev pub stack_of : List ℕ → ℕ → List ℕ
stack_of cells zero = []
stack_of cells (suc n) = get_or cells n 0 ∷ stack_of cells n

-- n states of S lie in cells enough
pub record StackIn (S : ℕ) (cells : List ℕ) (n : ℕ) : Type 0 where
  pub some : 1 ≤ n
  pub most : n ≤ 1024
  pub room : 1024 ≤ length cells
  pub states : (j : ℕ) → j < n → get_or cells j 0 < S

-- .. and what lies after the 1,024 stack cells is as it was lent
pub record StackFrom (S : ℕ) (lent cells : List ℕ) (n : ℕ) : Type 0 where
  pub stacked : StackIn S cells n
  pub rest : drop 1024 cells ≡ drop 1024 lent

-- the move that was seen from n states
abbrev pub Looked : ℕ → List ℕ → ℕ → Move → Seen → Type 0
Looked S cells n move Accept = accepts ≡ move
Looked S cells n move Error = fails ≡ move
Looked S cells n move Broken = breaks ≡ move
Looked S cells n move (Shift s) = (shifts s ≡ move) × (s < S)
Looked S cells n move (Reduce m g) = (reduces (g ∷ stack_of cells m) ≡ move) × (m ≤ n) × (g < S)

-- one turn of the reductions before the symbol a
abbrev pub Turned : Tables → ℕ → List ℕ → ℕ → ℕ → ℕ → ℕ → Turn → Type 0
Turned B S cells n a taken left (Ended e) = stops e (stack_of cells n) ≡ reducing B a taken left (stack_of cells n)
Turned B S cells n a taken left (MustShift s) = (to_shift s (stack_of cells n) ≡ reducing B a taken left (stack_of cells n)) × (s < S)
Turned B S cells n a taken left (MustReduce m g) =
    (reducing B a taken (left - 1) (g ∷ stack_of cells m) ≡ reducing B a taken left (stack_of cells n)) × (1 ≤ left) × (m ≤ n) × (m < 1024) × (g < S)

-- all of them
abbrev pub Held : ℕ → List ℕ → List ℕ → Limited 0 → Paused → Type 0
Held S lent cells want (Halted e n) = (stops e (stack_of cells n) ≡ want) × StackFrom S lent cells n
Held S lent cells want (Shifting s n) = (to_shift s (stack_of cells n) ≡ want) × StackFrom S lent cells n × (s < S)

-- a symbol of the sentence after its reductions: how the run ends before the shift, or the stack to go on with
abbrev pub shifted : ℕ → ℕ → Limited 0 → (Ending × List ℕ) ⊎ List ℕ
shifted a taken (stops e top) = inl (e, top)
shifted a taken (to_shift q top) = cond (ltb 1024 (length (q ∷ top))) (inl (Ending.Deep (stopped top a taken), top)) (inr (q ∷ top))

abbrev pub entering : Tables → ℕ → ℕ → List ℕ → (Ending × List ℕ) ⊎ List ℕ
entering B a taken st = shifted a taken (reducing B a taken 4096 st)

abbrev pub Fed : ℕ → List ℕ → List ℕ → (Ending × List ℕ) ⊎ List ℕ → Entered → Type 0
Fed S lent cells want (Closed e n) = (inl (e, stack_of cells n) ≡ want) × StackFrom S lent cells n
Fed S lent cells want (Depth n) = (inr (stack_of cells n) ≡ want) × StackFrom S lent cells n

-- the run that ended as o has, with what it leaves in the lent cells
abbrev pub RanTo : Ending × List ℕ → List ℕ → Ending → List ℕ → Type 0
RanTo o lent r out = (r ≡ o.0) × (out ≡ stack_left o.1 lent)
