-- Laws of the reductions before a symbol, turn by turn. Assumes nothing.
use Rattle.std.specs.Prelude.{◌≡◌, refl, List, ◌∷◌, length, set}
use Rattle.std.proofs.Common.{sym, ◌∙◌, ap}
use Prim.Native.Nat.{ℕ, zero, suc, ◌+◌, ◌-◌, ◌≤◌, ◌<◌}
use native.Mathlib.Omega.{arith}
use borrow.Author.Tests.{lt-ltb, le-ltb}
use Rattle.book.specs.Tables.{Tables}
use Rattle.machine.specs.Machine.{Move, shifts, next}
use Rattle.machine.specs.Run.{Limited, stops, to_shift, limited, stopped, reducing}
use Rattle.machine.specs.Stack.{stack_of, StackIn, StackFrom, Looked, Turned, Held}
use Rattle.machine.specs.StackLaws.{stack-length, stack_push, push}
use Rattle.machine.specs.declared.Ending.{Ending}
use Rattle.machine.specs.declared.Ending.TheVariants.{Deep, Spinning}
use Rattle.machine.specs.declared.Paused.TheVariants.{Ended as Halted, Shift as Shifting}
use Rattle.machine.specs.declared.Seen.TheVariants.{Reduce}
use Rattle.machine.specs.declared.Turn.TheVariants.{Ended, Shift as MustShift, Reduce as MustReduce}

-- ---- one turn, by the move that is next
module _ (B : Tables) (a taken : ℕ) (st : List ℕ) where
  -- one that ends the run whatever is left
  pub turn-stops : (left : ℕ) (m : Move) (e : Ending) → m ≡ next B st a → ((l : ℕ) → limited l (stopped st a taken) st m ≡ stops e st)
      → stops e st ≡ reducing B a taken left st
  unfolding reducing
  turn-stops zero m e i f = rw (← i) (sym (f 0))
  turn-stops (suc k) m e i f = rw (reducing, ← i, f (suc k))

  pub turn-shift : (left s : ℕ) → shifts s ≡ next B st a → to_shift s st ≡ reducing B a taken left st
  unfolding reducing
  turn-shift zero s i = rw (← i)
  turn-shift (suc k) s i = rw (reducing, ← i)

module _ (B : Tables) (S : ℕ) (cells : List ℕ) (n a taken left : ℕ) (m g : ℕ) (l : Looked S cells n (next B (stack_of cells n) a) (Reduce m g)) where
  pub turn-spinning : left ≡ 0 → Turned B S cells n a taken left (Ended (Spinning (stopped (stack_of cells n) a taken)))
  unfolding reducing
  turn-spinning e = rw (e, ← l.0)

  pub turn-deep : ¬ (left ≡ 0) → 1024 ≤ m → Turned B S cells n a taken left (Ended (Deep (stopped (stack_of cells n) a taken)))
  unfolding reducing
  turn-deep e h =
      let k : left ≡ suc (left - 1) = omega arith in
      rw (k, reducing, ← l.0, lt-ltb 1024 (suc (length (stack_of cells m))) (rw stack-length (omega arith)))

  turn_more : (k : ℕ) → m < 1024 → reducing B a taken k (g ∷ stack_of cells m) ≡ reducing B a taken (suc k) (stack_of cells n)
  unfolding reducing
  turn_more k h = rw (reducing, ← l.0, le-ltb 1024 (suc (length (stack_of cells m))) (rw stack-length (omega arith)))

  pub turn-reduce : ¬ (left ≡ 0) → m < 1024 → Turned B S cells n a taken left (MustReduce m g)
  turn-reduce e h =
      let k : left ≡ suc (left - 1) = omega arith in
      (turn_more (left - 1) h ∙ ap (λ (i : ℕ). reducing B a taken i (stack_of cells n)) (sym k), omega arith, l.1, h, l.2)

-- what the loop knows: from here on comes what is wanted
pub record Reducing (B : Tables) (S a taken : ℕ) (lent : List ℕ) (want : Limited 0) (cells : List ℕ) (n left : ℕ) : Type 0 where
  pub settled : StackFrom S lent cells n
  pub same : reducing B a taken left (stack_of cells n) ≡ want

module _ {B : Tables} {S a taken : ℕ} {lent : List ℕ} where
  pub reducing-none : {n : ℕ} → StackIn S lent n → Reducing B S a taken lent (reducing B a taken 4096 (stack_of lent n)) lent n 4096
  reducing-none s = record { settled = record { stacked = s; rest = refl }; same = refl }

  module _ {want : Limited 0} {cells : List ℕ} {n left : ℕ} (r : Reducing B S a taken lent want cells n left) where
    pub reducing-more : {m g : ℕ} → Turned B S cells n a taken left (MustReduce m g) → Reducing B S a taken lent want (set cells m g) (m + 1) (left - 1)
    reducing-more {m} {g} t = record {
      settled = push r.settled t.2 t.3 t.4;
      same = ap (reducing B a taken (left - 1)) (stack_push cells m g (omega (arith, t.3, r.settled.stacked.room))) ∙ t.0 ∙ r.same;
    }

    pub reducing-ended : {e : Ending} → Turned B S cells n a taken left (Ended e) → Held S lent cells want (Halted e n)
    reducing-ended t = (t ∙ r.same, r.settled)

    pub reducing-shift : {s : ℕ} → Turned B S cells n a taken left (MustShift s) → Held S lent cells want (Shifting s n)
    reducing-shift t = (t.0 ∙ r.same, r.settled, t.1)
