-- Laws of what a run brings on top: its moments, of which its ending is one, and that the unlimited machine gets there. Assumes nothing.
use Rattle.std.specs.Prelude.{Bool, cond, ◌⊎◌, ◌↔◌, ◌≡◌, ltb}
use Rattle.std.proofs.Math.Bool.{true, false}
use Rattle.std.proofs.lemmas.Bool.{false≢true}
use mathlib.Core.List.{List, [], ◌∷◌, ◌++◌}
use Rattle.std.proofs.Math.Logic.{inl, inr}
use Rattle.std.proofs.Math.Option.{Option, none, some}
use Rattle.std.proofs.Math.Path.{refl}
use Rattle.std.proofs.Common.{sym, ◌∙◌, ap, zero-add, suc-add, arith, eqb-true}
use Prim.Native.Nat.{ℕ, zero, suc, ◌+◌, ◌≤◌}
use Rattle.std.proofs.Math.Nat.{add-zero, add-suc}
use Rattle.std.proofs.Math.ListN.{length}
use Rattle.book.specs.Tables.{Tables}
use Rattle.book.specs.TablesLaws.{InRange}
use Rattle.machine.specs.Machine.{Move, accepts, fails, breaks, shifts, reduces, next, shift, Steps, done, then, Reaches}
use Rattle.machine.specs.MachineLaws.{◌⊕◌, taken-terminals}
use Rattle.machine.specs.Run.{Limited, stops, to_shift, stopped, stop_of, reduced_to, limited, reducing, runs}
use Rattle.machine.specs.RunLaws.{After, after-reducing}
use Rattle.machine.specs.Stack.{shifted, entering}
use Rattle.machine.specs.DrivingLaws.{BySymbol, by-shifted, runs_by}
use Rattle.within.specs.Within.{on_top, comes, brings, reaches_within}
use Rattle.machine.specs.declared.Ending.{Ending}
use Rattle.machine.specs.declared.Ending.TheVariants.{Deep}
use Rattle.machine.specs.declared.Stop.{Stop}

-- the stack 'before the step that was not taken'
abbrev pub paused : Limited 0 → List ℕ
paused (stops e st) = st
paused (to_shift q st) = st

-- the stack after a move that goes on before the same symbol: a reduction, unless it 'would make 1,025 states'
abbrev pub onward : Move → Option (List ℕ)
onward accepts = none
onward fails = none
onward breaks = none
onward (shifts q) = none
onward (reduces new) = cond (ltb 1024 (length new)) none (some new)

-- what goes by the reductions before a symbol, and stays with the stack that they pause with
by-onward : {A : Type 0} (left : ℕ) (stop : Stop) (st : List ℕ) (m : Move) (halt on : List ℕ → A)
    → ◌≡◌ {A = A}
    (elim (limited (suc left) stop st m) [ stops e top ↦ halt top | to_shift q top ↦ halt top | reduced_to new ↦ on new ])
    (elim (onward m) [ none ↦ halt st | some new ↦ on new ])
by-onward left stop st accepts halt on = refl
by-onward left stop st fails halt on = refl
by-onward left stop st breaks halt on = refl
by-onward left stop st (shifts q) halt on = refl
by-onward {A} left stop st (reduces new) halt on = go (ltb 1024 (length new))
  where
    go : (b : Bool)
        → ◌≡◌ {A = A} (elim (cond b (stops (Deep stop) st) (reduced_to {k = left} new)) [ stops e top ↦ halt top | to_shift q top ↦ halt top | reduced_to new ↦ on new ])
        (elim (cond b none (some new)) [ none ↦ halt st | some new ↦ on new ])
    go true = refl
    go false = refl

-- ---- one reduction, or none
module _ (B : Tables) (z taken : ℕ) (st : List ℕ) where
  paused-none : paused (reducing B z taken 0 st) ≡ st
  unfolding reducing
  paused-none = go (next B st z)
    where
      go : (m : Move) → paused (limited 0 (stopped st z taken) st m) ≡ st
      go accepts = refl
      go fails = refl
      go breaks = refl
      go (shifts q) = refl
      go (reduces new) = refl

  paused-more : (k : ℕ) → paused (reducing B z taken (suc k) st) ≡ elim (onward (next B st z)) [ none ↦ st | some new ↦ paused (reducing B z taken k new) ]
  unfolding reducing
  paused-more k =
      go (limited (suc k) (stopped st z taken) st (next B st z))
      ∙ by-onward k (stopped st z taken) st (next B st z) (λ top. top) (λ new. paused (reducing B z taken k new))
    where
      go : (o : Limited (suc k))
          → paused (elim o [ stops e top ↦ stops e top | to_shift q top ↦ to_shift q top | reduced_to new ↦ reducing B z taken k new ])
          ≡ elim o [ stops e top ↦ top | to_shift q top ↦ top | reduced_to new ↦ paused (reducing B z taken k new) ]
      go (stops e top) = refl
      go (to_shift q top) = refl
      go (reduced_to new) = refl

module _ (B : Tables) (z s taken : ℕ) (st : List ℕ) where
  pub comes-now : (left : ℕ) → on_top s st ≡ true → comes B z s taken left st ≡ true
  unfolding comes
  comes-now zero e = e
  comes-now (suc k) e = rw (comes, e)

  pub comes-last : comes B z s taken 0 st ≡ on_top s st
  unfolding comes
  comes-last = refl

  pub comes-none : on_top s st ≡ false → comes B z s taken 0 st ≡ false
  comes-none e = comes-last ∙ e

  pub comes-more : (k : ℕ) → on_top s st ≡ false
      → comes B z s taken (suc k) st ≡ elim (onward (next B st z)) [ none ↦ false | some new ↦ comes B z s taken k new ]
  unfolding comes
  comes-more k e = rw (comes, e) (by-onward k (stopped st z taken) st (next B st z) (λ top. false) (comes B z s taken k))

-- ---- the moments are where the reductions pause that are allowed at most so many
module _ (B : Tables) (z s taken : ℕ) where
  pub record Moment (left : ℕ) (st : List ℕ) : Type 0 where
    pub allowed : ℕ
    pub within : allowed ≤ left
    pub top : on_top s (paused (reducing B z taken allowed st)) ≡ true

  moment-now : (left : ℕ) (st : List ℕ) → on_top s st ≡ true → Moment left st
  moment-now left st e = record { allowed = 0; within = omega arith; top = rw paused-none e }

  comes-moment : (left : ℕ) (st : List ℕ) → comes B z s taken left st ≡ true → Moment left st
  unfolding comes
  comes-moment zero st e = moment-now 0 st e
  comes-moment (suc k) st e = go (λ new f. comes-moment k new f) (on_top s st) refl
    where
      later : ((new : List ℕ) → comes B z s taken k new ≡ true → Moment k new) → (o : Option (List ℕ)) → onward (next B st z) ≡ o
          → elim o [ none ↦ false | some new ↦ comes B z s taken k new ] ≡ true → Moment (suc k) st
      later on none i f = absurd (false≢true f)
      later on (some new) i f = let m = on new f in record { allowed = suc m.allowed; within = omega (arith, m.within); top = rw (paused-more, i) m.top }

      go : ((new : List ℕ) → comes B z s taken k new ≡ true → Moment k new) → (b : Bool) → on_top s st ≡ b → Moment (suc k) st
      go on true i = moment-now (suc k) st i
      go on false i = later on (onward (next B st z)) refl (sym (comes-more B z s taken st k i) ∙ e)

  moment-comes : (allowed left : ℕ) (st : List ℕ) → allowed ≤ left → on_top s (paused (reducing B z taken allowed st)) ≡ true → comes B z s taken left st ≡ true
  moment-comes zero left st h e = comes-now B z s taken st left (rw paused-none at e)
  moment-comes (suc j) zero st h e = absurd (omega arith)
  moment-comes (suc j) (suc k) st h e = go (λ new f. moment-comes j k new (omega arith) f) (on_top s st) refl
    where
      later : ((new : List ℕ) → on_top s (paused (reducing B z taken j new)) ≡ true → comes B z s taken k new ≡ true) → on_top s st ≡ false → (o : Option (List ℕ))
          → on_top s (elim o [ none ↦ st | some new ↦ paused (reducing B z taken j new) ]) ≡ true
          → elim o [ none ↦ false | some new ↦ comes B z s taken k new ] ≡ true
      later on i none f = cc
      later on i (some new) f = on new f

      go : ((new : List ℕ) → on_top s (paused (reducing B z taken j new)) ≡ true → comes B z s taken k new ≡ true) → (b : Bool) → on_top s st ≡ b
          → comes B z s taken (suc k) st ≡ true
      go on true i = comes-now B z s taken st (suc k) i
      go on false i = comes-more B z s taken st k i ∙ later on i (onward (next B st z)) (rw paused-more at e)

  pub comes-iff : (left : ℕ) (st : List ℕ) → (comes B z s taken left st ≡ true) ↔ Moment left st
  comes-iff left st = (comes-moment left st, λ m. moment-comes m.allowed left st m.within m.top)

-- ---- the symbols before z
pub brings-by : (B : Tables) (z s : ℕ) → BySymbol B (brings B z s) (λ end. false)
unfolding brings
brings-by B z s = record { symbol = λ a w taken st. by-shifted a taken (λ end. false) (brings B z s w (suc taken)) (reducing B a taken 4096 st) }

-- a symbol is not taken in where the run ends before it, and is where it goes on
abbrev Enters : Tables → ℕ → ℕ → List ℕ → (Ending × List ℕ) ⊎ List ℕ → Type 0
Enters B a taken st (inl end) = (stop_of end.0).taken ≡ taken
Enters B a taken st (inr new) = (u : List ℕ) → Steps B st (a ∷ u) new u

module _ (B : Tables) (a taken : ℕ) (st : List ℕ) where
  shifted-enters : (o : Limited 0) → ((u : List ℕ) → After B a taken u 0 st o) → Enters B a taken st (shifted a taken o)
  shifted-enters (stops e top) r = ap (λ (x : Stop). x.taken) (r []).1
  shifted-enters (to_shift q top) r = go (ltb 1024 (length (q ∷ top)))
    where
      go : (b : Bool) → Enters B a taken st (cond b (inl (Deep (stopped top a taken), top)) (inr (q ∷ top)))
      go true = refl
      go false = λ u. (r u).0 ⊕ then (shift (r u).1) done

  enters : Enters B a taken st (entering B a taken st)
  enters = shifted-enters (reducing B a taken 4096 st) (λ u. after-reducing B a taken u 0 4096 st)

module _ (B : Tables) (z s : ℕ) where
  -- all of w is in: the run goes on from this stack with z alone, and brings s on top
  pub record AllIn (w : List ℕ) (taken : ℕ) (st : List ℕ) : Type 0 where
    pub stack : List ℕ
    pub same : runs B z w taken st ≡ runs B z [] (taken + length w) stack
    pub come : comes B z s (taken + length w) 4096 stack ≡ true
    pub steps : (u : List ℕ) → Steps B st (w ++ u) stack u

  pub brings-in : (w : List ℕ) (taken : ℕ) (st : List ℕ) → brings B z s w taken st ≡ true → AllIn w taken st
  unfolding brings
  brings-in [] taken st e = record { stack = st; same = rw add-zero refl; come = rw add-zero e; steps = λ u. done }
  brings-in (a ∷ w) taken st e =
      go (λ new f. brings-in w (suc taken) new f) (entering B a taken st) (enters B a taken st) refl (sym ((brings-by B z s).symbol a w taken st) ∙ e)
    where
      go : ((new : List ℕ) → brings B z s w (suc taken) new ≡ true → AllIn w (suc taken) new) → (o : (Ending × List ℕ) ⊎ List ℕ) → Enters B a taken st o
          → entering B a taken st ≡ o → elim o [ inl end ↦ false | inr new ↦ brings B z s w (suc taken) new ] ≡ true → AllIn (a ∷ w) taken st
      go on (inl end) r i f = absurd (false≢true f)
      go on (inr new) r i f =
          let x = on new f in
          record {
            stack = x.stack;
            same = rw ((runs_by B z).symbol, i, add-suc, ← suc-add) x.same;
            come = rw (add-suc, ← suc-add) x.come;
            steps = λ u. r (w ++ u) ⊕ x.steps u;
          }

  last-paused : (taken : ℕ) (st : List ℕ) → (runs B z [] taken st).1 ≡ paused (reducing B z taken 4096 st)
  unfolding runs
  last-paused taken st = go (reducing B z taken 4096 st) refl
    where
      go : (o : Limited 0) → reducing B z taken 4096 st ≡ o → (runs B z [] taken st).1 ≡ paused o
      go (stops e top) i = rw (runs, i)
      go (to_shift q top) i = rw (runs, i)

  -- an ending with all of w in is such a moment
  ending-brings : (w : List ℕ) (taken : ℕ) (st : List ℕ) → (stop_of (runs B z w taken st).0).taken ≡ taken + length w
      → on_top s (runs B z w taken st).1 ≡ true → brings B z s w taken st ≡ true
  unfolding brings
  ending-brings [] taken st e t = moment-comes B z s taken 4096 4096 st (omega arith) (rw last-paused at t)
  ending-brings (a ∷ w) taken st e t = go (λ new f g. ending-brings w (suc taken) new f g) (entering B a taken st) (enters B a taken st) refl
    where
      go : ((new : List ℕ) → (stop_of (runs B z w (suc taken) new).0).taken ≡ suc taken + length w → on_top s (runs B z w (suc taken) new).1 ≡ true
          → brings B z s w (suc taken) new ≡ true) → (o : (Ending × List ℕ) ⊎ List ℕ) → Enters B a taken st o → entering B a taken st ≡ o
          → brings B z s (a ∷ w) taken st ≡ true
      go on (inl end) r i = absurd (omega (arith, r, rw ((runs_by B z).symbol, i) at e))
      go on (inr new) r i = rw ((brings-by B z s).symbol, i) (on new (omega (arith, rw ((runs_by B z).symbol, i) at e)) (rw ((runs_by B z).symbol, i) at t))

-- ---- from the start
top-is : (s : ℕ) (st : List ℕ) → on_top s st ≡ true → (below : List ℕ) × (st ≡ s ∷ below)
top-is s [] e = absurd (false≢true e)
top-is s (q ∷ st) e = let i : s ≡ q = eqb-true s q e in (st, rw i)

paused-steps : (B : Tables) (z taken : ℕ) (u : List ℕ) (left : ℕ) (st : List ℕ) → Steps B st (z ∷ u) (paused (reducing B z taken left st)) (z ∷ u)
paused-steps B z taken u left st = go (reducing B z taken left st) (after-reducing B z taken u 0 left st)
  where
    go : (o : Limited 0) → After B z taken u 0 st o → Steps B st (z ∷ u) (paused o) (z ∷ u)
    go (stops e top) (r, s, m) = r
    go (to_shift q top) (r, m) = r

module _ (B : Tables) (w : List ℕ) (z s : ℕ) where
  -- a sentence that reaches its pair within the limits of a run reaches it
  pub within-reaches : InRange B → reaches_within B w z s ≡ true → Reaches B w z s
  within-reaches i e =
      let x = brings-in B z s w 0 (0 ∷ []) e in
      let m = comes-moment B z s (0 + length w) 4096 x.stack x.come in
      let (below, j) = top-is s (paused (reducing B z (0 + length w) m.allowed x.stack)) m.top in
      let run : Steps B (0 ∷ []) (w ++ (z ∷ [])) (s ∷ below) (z ∷ []) = rw j at (x.steps (z ∷ []) ⊕ paused-steps B z (0 + length w) [] m.allowed x.stack) in
      record { terminals = taken-terminals i w run; below = below; run = run }

  -- an error, or any other ending, with the whole sentence in and s on top is within the limits
  pub ending-within : (stop_of (runs B z w 0 (0 ∷ [])).0).taken ≡ length w → on_top s (runs B z w 0 (0 ∷ [])).1 ≡ true → reaches_within B w z s ≡ true
  ending-within e t = ending-brings B z s w 0 (0 ∷ []) (rw zero-add e) t

-- 'The start counts'
pub start-within : (B : Tables) (z : ℕ) → reaches_within B [] z 0 ≡ true
unfolding brings comes
start-within B z = refl
