-- Laws of how a state comes on top before a symbol, reduction by reduction. Assumes nothing.
use Rattle.std.specs.Prelude.{Bool, true, false, List, ◌∷◌, ◌≡◌, refl, ℕ, suc, ◌+◌, ◌-◌, ◌≤◌, ◌<◌, eqb, length, get_or, set}
use Rattle.std.proofs.Math.Option.{none, some}
use Rattle.std.proofs.Common.{sym, subst, ◌∙◌, ap, arith, lt-ltb, le-ltb, eq-eqb, ne_eqb}
use Rattle.std.proofs.lemmas.Bool.Decides.{nat_tests}
use Rattle.book.specs.Tables.{Tables}
use Rattle.machine.specs.Machine.{Move, next}
use Rattle.machine.specs.Stack.{stack_of, StackIn, StackFrom, Looked}
use Rattle.machine.specs.StackLaws.{stack-length, stack_top, stack_push, push}
use Rattle.machine.specs.DrivingLaws.{Driving, driving-all}
use Rattle.within.specs.Within.{on_top, comes, brings, reaches_within}
use Rattle.within.proofs.WithinLaws.{onward, comes-now, comes-last, comes-none, comes-more}
use Rattle.machine.specs.declared.Seen.{Seen}
use Rattle.machine.specs.declared.Seen.TheVariants.{Accept, Error, Broken, Shift, Reduce}

eqb_flip : (x y : ℕ) → eqb x y ≡ eqb y x
eqb_flip x y = grind (arith, nat_tests)

-- ---- what was seen goes on, or not
module _ (S : ℕ) (cells : List ℕ) (n : ℕ) (move : Move) where
  onward-room : {m g : ℕ} → Looked S cells n move (Reduce m g) → m < 1024 → onward move ≡ some (g ∷ stack_of cells m)
  onward-room {m} {g} l h = rw (← l.0, le-ltb 1024 (suc (length (stack_of cells m))) (rw stack-length (omega arith)))

  onward-deep : {m g : ℕ} → Looked S cells n move (Reduce m g) → 1024 ≤ m → onward move ≡ none
  onward-deep {m} {g} l h = rw (← l.0, lt-ltb 1024 (suc (length (stack_of cells m))) (rw stack-length (omega arith)))

  onward-other : (v : Seen) → Looked S cells n move v → ((m g : ℕ) → ¬ (v ≡ Reduce m g)) → onward move ≡ none
  onward-other Accept l h = rw (← l)
  onward-other Error l h = rw (← l)
  onward-other Broken l h = rw (← l)
  onward-other (Shift q) l h = rw (← l.0)
  onward-other (Reduce m g) l h = absurd (h m g refl)

-- ---- before z: from here on s comes on top as from the start, however many symbols were taken in
pub record Coming (B : Tables) (S z s : ℕ) (lent cells : List ℕ) (depth n left : ℕ) : Type 0 where
  pub settled : StackFrom S lent cells n
  pub same : (taken : ℕ) → comes B z s taken left (stack_of cells n) ≡ comes B z s taken 4096 (stack_of lent depth)

pub coming-none : {B : Tables} {S z s : ℕ} {lent : List ℕ} {depth : ℕ} → StackIn S lent depth → Coming B S z s lent lent depth depth 4096
coming-none h = record { settled = record { stacked = h; rest = refl }; same = λ taken. refl }

module _ {B : Tables} {S z s : ℕ} {lent cells : List ℕ} {depth n left : ℕ} (r : Coming B S z s lent cells depth n left) where
  top-is : on_top s (stack_of cells n) ≡ eqb s (get_or cells (n - 1) 0)
  top-is = rw (stack_top cells n r.settled.stacked.some)

  pub coming-now : get_or cells (n - 1) 0 ≡ s → (taken : ℕ) → true ≡ comes B z s taken 4096 (stack_of lent depth)
  coming-now e taken =
      sym (comes-now B z s taken (stack_of cells n) left (top-is ∙ eq-eqb s (get_or cells (n - 1) 0) (sym e))) ∙ r.same taken

  pub coming-last : left ≡ 0 → (taken : ℕ) → eqb (get_or cells (n - 1) 0) s ≡ comes B z s taken 4096 (stack_of lent depth)
  coming-last h taken = eqb_flip _ s ∙ sym top-is ∙ sym (comes-last B z s taken (stack_of cells n)) ∙ (rw h at (r.same taken))

  module _ (e : ¬ (get_or cells (n - 1) 0 ≡ s)) where
    other : on_top s (stack_of cells n) ≡ false
    other = top-is ∙ ne_eqb s (get_or cells (n - 1) 0) (λ i. e (sym i))

    pub coming-spent : left ≡ 0 → (taken : ℕ) → false ≡ comes B z s taken 4096 (stack_of lent depth)
    coming-spent h taken = sym (comes-none B z s taken (stack_of cells n) other) ∙ (rw h at (r.same taken))

    module _ (h : ¬ (left ≡ 0)) where
      turn : (taken : ℕ) → comes B z s taken 4096 (stack_of lent depth)
          ≡ elim (onward (next B (stack_of cells n) z)) [ none ↦ false | some new ↦ comes B z s taken (left - 1) new ]
      turn taken =
          let k : left ≡ suc (left - 1) = omega arith in
          sym (r.same taken) ∙ ap (λ (i : ℕ). comes B z s taken i (stack_of cells n)) k ∙ comes-more B z s taken (stack_of cells n) (left - 1) other

      stops : onward (next B (stack_of cells n) z) ≡ none → (taken : ℕ) → false ≡ comes B z s taken 4096 (stack_of lent depth)
      stops i taken = sym (rw i at (turn taken))

      pub coming-deep : {m g : ℕ} → Looked S cells n (next B (stack_of cells n) z) (Reduce m g) → 1024 ≤ m
          → (taken : ℕ) → false ≡ comes B z s taken 4096 (stack_of lent depth)
      coming-deep l b = stops (onward-deep S cells n (next B (stack_of cells n) z) l b)

      pub coming-other : (v : Seen) → Looked S cells n (next B (stack_of cells n) z) v → ((m g : ℕ) → ¬ (v ≡ Reduce m g))
          → (taken : ℕ) → false ≡ comes B z s taken 4096 (stack_of lent depth)
      coming-other v l i = stops (onward-other S cells n (next B (stack_of cells n) z) v l i)

      pub coming-more : {m g : ℕ} → Looked S cells n (next B (stack_of cells n) z) (Reduce m g) → m < 1024
          → Coming B S z s lent (set cells m g) depth (m + 1) (left - 1)
      coming-more {m} {g} l b = record {
        settled = push r.settled l.1 b l.2;
        same = λ taken.
            ap (comes B z s taken (left - 1)) (stack_push cells m g (omega (arith, r.settled.stacked.room)))
            ∙ sym (rw (onward-room S cells n (next B (stack_of cells n) z) l b) at (turn taken));
      }

-- after so many reductions of 4,096 some are left, and one fewer after one more
pub some-left : {done : ℕ} → done < 4096 → ¬ (4096 - done ≡ 0)
some-left h e = absurd (omega (arith, h, e))

pub coming-on : {B : Tables} {S z s : ℕ} {lent cells : List ℕ} {depth n : ℕ} (done : ℕ) → Coming B S z s lent cells depth n (4096 - done - 1)
    → Coming B S z s lent cells depth n (4096 - (done + 1))
coming-on {B} {S} {z} {s} {lent} {cells} {depth} {n} done r = subst (Coming B S z s lent cells depth n) (omega arith) r

-- all of w is in
pub bringing-done : (B : Tables) (z s : ℕ) {S : ℕ} {w lent cells : List ℕ} {depth taken : ℕ} {r : Bool} → Driving (brings B z s) S w lent cells depth taken → length w ≤ taken
    → ((i : ℕ) → r ≡ comes B z s i 4096 (stack_of cells depth)) → r ≡ reaches_within B w z s
unfolding brings
bringing-done B z s {taken} d h f = f taken ∙ driving-all d h
