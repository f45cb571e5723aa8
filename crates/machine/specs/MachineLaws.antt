-- Laws of the machine: a step is a function, what a step comes from, and which symbols are taken in. Assumes nothing.
use Rattle.std.specs.Prelude.{◌≡◌, List, [], ◌∷◌, ◌++◌, ◌⊎◌, ℕ, zero, suc, ◌≤◌, ◌<◌, length, get_or, drop}
use Rattle.std.proofs.Math.Path.{refl, ap}
use Rattle.std.proofs.lemmas.List.{append_cancel_right}
use Rattle.std.proofs.Common.{inl, inr, ⊎_elim, le_refl, arith}
use Rattle.book.specs.Tables.{Tables}
use Rattle.book.specs.TablesLaws.{InRange}
use Rattle.book.specs.declared.Action.{Action}
use Rattle.book.specs.declared.Action.TheVariants.{Error, Accept, Shift, Reduce}
use Rattle.machine.specs.Machine.{breaks, shifts, reduces, goes, lands, does, next, Step, shift, reduce, Steps, done, then, Terminals, none, more}

-- what a reduction from the stack q ∷ st under a comes from: the production, and the state then on top with its goto
pub record Reduction (B : Tables) (q : ℕ) (st : List ℕ) (a : ℕ) (st' : List ℕ) : Type 0 where
  pub production : ℕ
  pub top : ℕ
  pub under : List ℕ
  pub target : ℕ
  pub action : B.act q a ≡ Reduce production
  pub left : drop (B.len production) (q ∷ st) ≡ top ∷ under
  pub transition : B.goto top (B.lhs production) ≡ suc target
  pub stack : st' ≡ target ∷ top ∷ under

-- two constructors differ: `cc` proves this equation from their being equal
pub clash : ◌≡◌ {A = ℕ} 0 1 → ⊥
clash e = omega arith

-- a symbol of a sentence
pub terminal-at : {B : Tables} {w : List ℕ} → Terminals B w → (i : ℕ) → i < length w → (1 ≤ get_or w i 0) × (get_or w i 0 < B.terminals)
terminal-at none i h = absurd (omega arith)
terminal-at (more h l t) zero g = (h, l)
terminal-at (more h l t) (suc i) g = terminal-at t i (omega arith)

-- a step by its action
pub step-shift : {B : Tables} {q q' a : ℕ} {st u : List ℕ} → B.act q a ≡ Shift q' → Step B (q ∷ st) (a ∷ u) (q' ∷ q ∷ st) u
unfolding next
step-shift {B} {q} {q'} {a} {st} e = let n : next B (q ∷ st) a ≡ shifts q' = rw e in shift n

pub step-reduce : {B : Tables} {q a p q' g : ℕ} {st st' u : List ℕ} → B.act q a ≡ Reduce p → drop (B.len p) (q ∷ st) ≡ q' ∷ st'
    → B.goto q' (B.lhs p) ≡ suc g → Step B (q ∷ st) (a ∷ u) (g ∷ q' ∷ st') (a ∷ u)
unfolding next
step-reduce {B} {q} {a} {q'} {g} {st} {st'} e d i = let n : next B (q ∷ st) a ≡ reduces (g ∷ q' ∷ st') = rw (e, d, i) in reduce n

-- .. and back
module _ (B : Tables) (q a : ℕ) (st : List ℕ) where
  goes_on : (g : ℕ) (stack st' : List ℕ) → goes g stack ≡ reduces st' → (n : ℕ) × (g ≡ suc n) × (st' ≡ n ∷ stack)
  goes_on zero stack st' e = absurd (clash cc)
  goes_on (suc n) stack st' e = (n, refl, cc)

  goes-shift : (g s : ℕ) (stack : List ℕ) → goes g stack ≡ shifts s → ⊥
  goes-shift zero s stack e = clash cc
  goes-shift (suc n) s stack e = clash cc

  lands-shift : (X s : ℕ) (stack : List ℕ) → lands B X stack ≡ shifts s → ⊥
  lands-shift X s [] e = clash cc
  lands-shift X s (t ∷ stack) e = goes-shift (B.goto t X) s (t ∷ stack) e

  does-shift : (s : ℕ) (x : Action) → does B (q ∷ st) x ≡ shifts s → x ≡ Shift s
  does-shift s Error e = cc
  does-shift s Accept e = cc
  does-shift s (Shift t) e = cc
  does-shift s (Reduce p) e = absurd (lands-shift (B.lhs p) s (drop (B.len p) (q ∷ st)) e)

  pub next-shift : {s : ℕ} → next B (q ∷ st) a ≡ shifts s → B.act q a ≡ Shift s
  unfolding next
  next-shift {s} e = does-shift s (B.act q a) e

  lands-on : (p : ℕ) (stack st' : List ℕ) → B.act q a ≡ Reduce p → drop (B.len p) (q ∷ st) ≡ stack → lands B (B.lhs p) stack ≡ reduces st' → Reduction B q st a st'
  lands-on p [] st' i d e = absurd (clash cc)
  lands-on p (t ∷ stack) st' i d e =
      let (n, g, j) = goes_on (B.goto t (B.lhs p)) (t ∷ stack) st' e in
      record { production = p; top = t; under = stack; target = n; action = i; left = d; transition = g; stack = j }

  does-reduce : (st' : List ℕ) (x : Action) → B.act q a ≡ x → does B (q ∷ st) x ≡ reduces st' → Reduction B q st a st'
  does-reduce st' Error i e = absurd (clash cc)
  does-reduce st' Accept i e = absurd (clash cc)
  does-reduce st' (Shift s) i e = absurd (clash cc)
  does-reduce st' (Reduce p) i e = lands-on p (drop (B.len p) (q ∷ st)) st' i refl e

  pub next-reduce : {st' : List ℕ} → next B (q ∷ st) a ≡ reduces st' → Reduction B q st a st'
  unfolding next
  next-reduce {st'} e = does-reduce st' (B.act q a) refl e

-- an empty stack does nothing
pub next-empty : (B : Tables) (a : ℕ) → next B [] a ≡ breaks
unfolding next
next-empty B a = refl

module _ {B : Tables} where
  infixl 20 ◌⊕◌
  pub ◌⊕◌ : {s₁ u₁ s₂ u₂ s₃ u₃ : List ℕ} → Steps B s₁ u₁ s₂ u₂ → Steps B s₂ u₂ s₃ u₃ → Steps B s₁ u₁ s₃ u₃
  done ⊕ r = r
  (then s r) ⊕ r' = then s (r ⊕ r')

  -- a step is a function
  pub step-det : {s u s₁ u₁ s₂ u₂ : List ℕ} → Step B s u s₁ u₁ → Step B s u s₂ u₂ → (s₁ ≡ s₂) × (u₁ ≡ u₂)
  step-det (shift e) (shift e') = (cc, refl)
  step-det (shift e) (reduce e') = (cc, cc)
  step-det (reduce e) (shift e') = (cc, cc)
  step-det (reduce e) (reduce e') = (cc, refl)

  -- so of two runs from one configuration one goes on from where the other ends
  pub steps-det : {s u s₁ u₁ s₂ u₂ : List ℕ} → Steps B s u s₁ u₁ → Steps B s u s₂ u₂ → Steps B s₁ u₁ s₂ u₂ ⊎ Steps B s₂ u₂ s₁ u₁
  steps-det done r = inl r
  steps-det (then a r) done = inr (then a r)
  steps-det (then a r) (then b r') = let (p, e) = step-det b a in steps-det r (rw (p, e) at r')

  -- input is only taken in, so the run that has less of it to come is the later one
  pub steps-input : {s u s' u' : List ℕ} → Steps B s u s' u' → length u' ≤ length u
  steps-input done = le_refl _
  steps-input (then (shift e) r) = omega (arith, steps-input r)
  steps-input (then (reduce e) r) = steps-input r

  pub steps-after : {s u s₁ u₁ s₂ u₂ : List ℕ} → Steps B s u s₁ u₁ → Steps B s u s₂ u₂ → length u₂ < length u₁ → Steps B s₁ u₁ s₂ u₂
  steps-after r r' h = ⊎_elim (λ x. x) (λ x. absurd (omega (arith, steps-input x))) (steps-det r r')

  -- 'no state shifts' the end mark: what is taken in lies in 1 .. T - 1
  taken-from : InRange B → {st st' v u : List ℕ} (a : ℕ) → Step B st v st' u → v ≡ a ∷ u → (1 ≤ a) × (a < B.terminals)
  taken-from i a (shift {st = []} {a = b} e) h = absurd (clash (cc (next-empty B b)))
  taken-from i a (shift {st = q ∷ st} {a = b} {s} e) h =
      let same : b ≡ a = cc in let k = i.shifts q b s (next-shift B q b st e) in rw (← same) (k.1, k.2)
  taken-from i a (reduce {u = u} {a = b} e) h = absurd (omega (arith, ap length h))

  pub taken-terminal : InRange B → {st st' u : List ℕ} {a : ℕ} → Step B st (a ∷ u) st' u → (1 ≤ a) × (a < B.terminals)
  taken-terminal i {a = a} s = taken-from i a s refl

  takes : InRange B → {st x st' u : List ℕ} (w : List ℕ) → x ≡ w ++ u → Steps B st x st' u → Terminals B w
  takes i {u} w e done = rw (← append_cancel_right [] w u e) none
  takes i [] e (then (shift f) r) = none
  takes i {u} (b ∷ w) e (then (shift {st} {u = u₁} {a} {s} f) r) =
      let j : u₁ ≡ w ++ u = cc in
      let k : a ≡ b = cc in
      let (h, l) = taken-terminal i (shift {u = u₁} f) in
      rw (← k) (more h l (takes i w j r))
  takes i w e (then (reduce f) r) = takes i w e r

  pub taken-terminals : InRange B → {st st' u : List ℕ} (w : List ℕ) → Steps B st (w ++ u) st' u → Terminals B w
  taken-terminals i w r = takes i w refl r
