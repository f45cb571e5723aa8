-- Laws of a run, symbol by symbol. Assumes nothing.
use Rattle.std.specs.Prelude.{◌≡◌, refl, Bool, true, false, cond, List, [], ◌∷◌, ◌⊎◌, ℕ, zero, suc, ◌+◌, ◌≤◌, ◌<◌, ltb, length, get_or, drop, set}
use Rattle.std.proofs.Common.{◌∙◌, inl, inr, add-one, arith, lt-ltb, le-ltb, length-set, drop_of_length-le, drop-cons, drop-set-lt, get_or-set_same}
use Rattle.book.specs.Tables.{Tables}
use Rattle.machine.specs.Run.{Limited, stops, to_shift, stopped, reducing, runs, stack_left}
use Rattle.machine.specs.Stack.{stack_of, StackFrom, shifted, entering, Fed, RanTo}
use Rattle.machine.specs.StackLaws.{stack-length, stack_push, push}
use Rattle.machine.specs.declared.Ending.{Ending}
use Rattle.machine.specs.declared.Ending.TheVariants.{Deep, Passed}
use Rattle.machine.specs.declared.Entered.TheVariants.{Ended as Closed, Depth}

-- ---- a symbol of the sentence
module _ (B : Tables) (a taken depth : ℕ) {S : ℕ} {lent cells : List ℕ} {n : ℕ} where
  pub fed-ended : {e : Ending} → stops e (stack_of cells n) ≡ reducing B a taken 4096 (stack_of lent depth) → StackFrom S lent cells n
      → Fed S lent cells (entering B a taken (stack_of lent depth)) (Closed e n)
  fed-ended h s = (rw (← h), s)

  pub fed-push : {x : ℕ} → to_shift x (stack_of cells n) ≡ reducing B a taken 4096 (stack_of lent depth) → StackFrom S lent cells n → x < S → n < 1024
      → Fed S lent (set cells n x) (entering B a taken (stack_of lent depth)) (Depth (n + 1))
  fed-push {x} h s b l = (
    rw (← h, le-ltb 1024 (suc (length (stack_of cells n))) (rw stack-length (omega arith)), stack_push cells n x (omega (arith, s.stacked.room))),
    push s (omega arith) l b,
  )

  pub fed-deep : {x : ℕ} → to_shift x (stack_of cells n) ≡ reducing B a taken 4096 (stack_of lent depth) → StackFrom S lent cells n → 1024 ≤ n
      → Fed S lent cells (entering B a taken (stack_of lent depth)) (Closed (Deep (stopped (stack_of cells n) a taken)) n)
  fed-deep {x} h s l = (rw (← h, lt-ltb 1024 (suc (length (stack_of cells n))) (rw stack-length (omega arith))), s)

-- what goes by a sentence as its run does, with halt of the run's end before all symbols are in
pub record BySymbol {A : Type 0} (B : Tables) (go : List ℕ → ℕ → List ℕ → A) (halt : Ending × List ℕ → A) : Type 0 where
  pub symbol : (a : ℕ) (w : List ℕ) (taken : ℕ) (st : List ℕ)
      → go (a ∷ w) taken st ≡ elim (entering B a taken st) [ inl end ↦ halt end | inr new ↦ go w (suc taken) new ]

pub by-shifted : {A : Type 0} (a taken : ℕ) (halt : Ending × List ℕ → A) (on : List ℕ → A) (o : Limited 0)
    → ◌≡◌ {A = A}
    (elim o [
      | stops e top ↦ halt (e, top)
      | to_shift q top ↦ elim (ltb 1024 (length (q ∷ top))) [ true ↦ halt (Deep (stopped top a taken), top) | false ↦ on (q ∷ top) ]
    ])
    (elim (shifted a taken o) [ inl end ↦ halt end | inr new ↦ on new ])
by-shifted a taken halt on (stops e top) = refl
by-shifted {A} a taken halt on (to_shift q top) = go (ltb 1024 (length (q ∷ top)))
  where
    go : (b : Bool)
        → ◌≡◌ {A = A} (elim b [ true ↦ halt (Deep (stopped top a taken), top) | false ↦ on (q ∷ top) ])
        (elim (cond {A = (Ending × List ℕ) ⊎ List ℕ} b (inl (Deep (stopped top a taken), top)) (inr (q ∷ top))) [ inl end ↦ halt end | inr new ↦ on new ])
    go true = refl
    go false = refl

pub runs_by : (B : Tables) (z : ℕ) → BySymbol B (runs B z) (λ end. end)
unfolding runs
runs_by B z = record { symbol = λ a w taken st. by-shifted a taken (λ end. end) (runs B z w (suc taken)) (reducing B a taken 4096 st) }

-- ---- the end: what lies after the stack cells is as it was lent
module _ (B : Tables) (z taken depth : ℕ) {S : ℕ} {lent cells out : List ℕ} {n : ℕ} where
  pub finish-ended : {e : Ending} → stops e (stack_of cells n) ≡ reducing B z taken 4096 (stack_of lent depth) → StackFrom S lent cells n
      → out ≡ stack_left (stack_of cells n) cells → RanTo (runs B z [] taken (stack_of lent depth)) lent e out
  unfolding runs
  finish-ended h s o = rw (runs, ← h) (refl, o ∙ rw s.rest)

  pub finish-shift : {x : ℕ} → to_shift x (stack_of cells n) ≡ reducing B z taken 4096 (stack_of lent depth) → StackFrom S lent cells n
      → out ≡ stack_left (stack_of cells n) cells
      → RanTo (runs B z [] taken (stack_of lent depth)) lent (Passed (stopped (stack_of cells n) z taken)) out
  unfolding runs
  finish-shift h s o = rw (runs, ← h) (refl, o ∙ rw s.rest)

-- what the loop knows: from here on it goes as from its start
pub record Driving {A : Type 0} (go : List ℕ → ℕ → List ℕ → A) (S : ℕ) (w lent cells : List ℕ) (depth taken : ℕ) : Type 0 where
  pub settled : StackFrom S lent cells depth
  pub within : taken ≤ length w
  pub same : go (drop taken w) taken (stack_of cells depth) ≡ go w 0 (0 ∷ [])

settled_on : {S : ℕ} {lent mid cells : List ℕ} {m n : ℕ} → StackFrom S lent mid m → StackFrom S mid cells n → StackFrom S lent cells n
settled_on s t = record { stacked = t.stacked; rest = t.rest ∙ s.rest }

module _ {A : Type 0} {go : List ℕ → ℕ → List ℕ → A} {S : ℕ} {w : List ℕ} where
  pub driving-none : (lent : List ℕ) → 1 ≤ S → 1024 ≤ length lent → Driving go S w (set lent 0 0) (set lent 0 0) 1 0
  driving-none lent h l = record {
    settled = record {
      stacked = record { some = omega arith; most = omega arith; room = rw length-set l; states = λ j k. zeros j k };
      rest = refl;
    };
    within = omega arith;
    same = rw (get_or-set_same lent 0 0 0 (omega arith));
  }
    where
      zeros : (j : ℕ) → j < 1 → get_or (set lent 0 0) j 0 < S
      zeros zero k = rw (get_or-set_same lent 0 0 0 (omega arith)) h
      zeros (suc j) k = absurd (omega arith)

  module _ {lent cells : List ℕ} {depth taken : ℕ} (r : Driving go S w lent cells depth taken) where
    pub driving-all : length w ≤ taken → go [] taken (stack_of cells depth) ≡ go w 0 (0 ∷ [])
    driving-all h = rw (drop_of_length-le w h) at r.same

    module _ {B : Tables} {halt : Ending × List ℕ → A} (by : BySymbol B go halt) (h : taken < length w) where
      next-symbol : (o : (Ending × List ℕ) ⊎ List ℕ) → o ≡ entering B (get_or w taken 0) taken (stack_of cells depth)
          → ◌≡◌ {A = A} (elim o [ inl end ↦ halt end | inr new ↦ go (drop (suc taken) w) (suc taken) new ]) (go w 0 (0 ∷ []))
      next-symbol o e = rw (e, ← by.symbol (get_or w taken 0) (drop (suc taken) w) taken (stack_of cells depth)) (rw (drop-cons w taken 0 h) at r.same)

      pub driving-more : {new : List ℕ} {n : ℕ} → Fed S cells new (entering B (get_or w taken 0) taken (stack_of cells depth)) (Depth n)
          → Driving go S w lent new n (taken + 1)
      driving-more {new} {n} f = record {
        settled = settled_on r.settled f.1;
        within = omega arith;
        same = rw add-one (next-symbol (inr (stack_of new n)) f.0);
      }

      pub driving-halt : {new : List ℕ} {e : Ending} {n : ℕ} → Fed S cells new (entering B (get_or w taken 0) taken (stack_of cells depth)) (Closed e n)
          → halt (e, stack_of new n) ≡ go w 0 (0 ∷ [])
      driving-halt {new} {e} {n} f = next-symbol (inl (e, stack_of new n)) f.0

-- .. the run itself
module _ (B : Tables) (z : ℕ) {S : ℕ} {w lent cells : List ℕ} {depth taken : ℕ} (r : Driving (runs B z) S w lent cells depth taken) where
  pub driving-ended : {new out : List ℕ} {e : Ending} {n : ℕ} → taken < length w → Fed S cells new (entering B (get_or w taken 0) taken (stack_of cells depth)) (Closed e n)
      → out ≡ stack_left (stack_of new n) new → RanTo (runs B z w 0 (0 ∷ [])) lent e out
  driving-ended h f o = rw (← driving-halt r (runs_by B z) h f) (refl, o ∙ rw (f.1.rest, r.settled.rest))

  pub driving-done : {out : List ℕ} {e : Ending} → length w ≤ taken → RanTo (runs B z [] taken (stack_of cells depth)) cells e out
      → RanTo (runs B z w 0 (0 ∷ [])) lent e out
  driving-done h f = let all = driving-all r h in (f.0 ∙ rw all, f.1 ∙ rw (all, r.settled.rest))

-- the first state is stored among the stack cells
pub ran-set : {r : Ending} {out : List ℕ} (lent : List ℕ) (o : Ending × List ℕ) → RanTo o (set lent 0 0) r out → RanTo o lent r out
ran-set lent o (e, f) = (e, f ∙ rw (drop-set-lt 1024 lent 0 0 (omega arith)))
