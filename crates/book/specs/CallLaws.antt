-- Laws of a call. Assumes nothing.
use Rattle.std.specs.Prelude.{⊤, ◌<◌, ◌+◌, length, drop, get_or, Result, Ok, Err, Bool, true, false, List, [], ◌∷◌, ◌⊎◌, ◌≡◌, refl, ℕ}
use Rattle.std.proofs.Common.{add-one, drop-cons, inl, inr, ⊎_elim, sym, ◌∙◌, ap, arith}
use Rattle.number.specs.Number.{refused_at}
use Rattle.number.specs.declared.cause.Cause.{Cause}
use Rattle.number.specs.declared.cause.Refusal.{Refusal}
use Rattle.book.specs.Call.{step, steps, admits, Tells, Concludes}
use Rattle.book.specs.declared.Sizes.{Sizes}

-- ---- what is admitted: no step refuses
abbrev pub None : List (Bool × Cause × ℕ) → Type 0
None [] = Unit
None ((this, cause, place) ∷ more) = (this ≡ false) × None more

steps-refused : (more : List (Bool × Cause × ℕ)) (r : Refusal) → steps (Err r) more ≡ Err r
steps-refused [] r = refl
steps-refused (step ∷ more) r = steps-refused more r

never : {r : Refusal} {d : Sizes} → Err r ≡ Ok d → ⊥
never e = let z : ◌≡◌ {A = ℕ} 0 1 = cc in omega arith

pub steps-none : (more : List (Bool × Cause × ℕ)) {x d : Sizes} → steps (Ok x) more ≡ Ok d → (x ≡ d) × None more
steps-none [] e = (cc, tt)
steps-none ((true, cause, place) ∷ more) e = absurd (never (sym (steps-refused more (refused_at cause place)) ∙ e))
steps-none ((false, cause, place) ∷ more) e = let (same, none) = steps-none more e in (same, (refl, none))

pub call-admitted : (found : Result Sizes Refusal) (after : Sizes → List (Bool × Cause × ℕ)) (d : Sizes) → admits found after ≡ Ok d → (found ≡ Ok d) × None (after d)
call-admitted (Err r) after d e = absurd (never e)
call-admitted (Ok x) after d e = let (same, none) = steps-none (after x) e in (ap Ok same, rw same at none)

-- ---- a step that a function goes through by itself
pub step-stops : (d : Sizes) {r : Refusal} (this : Bool) (cause : Cause) (place : ℕ) (more : List (Bool × Cause × ℕ)) → Err r ≡ step this cause place
    → Err r ≡ steps (Ok d) ((this, cause, place) ∷ more)
step-stops d {r} true cause place more e = let f : r ≡ refused_at cause place = cc in rw f (sym (steps-refused more (refused_at cause place)))
step-stops d false cause place more e = let z : ◌≡◌ {A = ℕ} 0 1 = cc in absurd (omega arith)

pub step-refuses : {r : Refusal} (this : Bool) (cause : Cause) (place : ℕ) → Err r ≡ step this cause place → (this ≡ true) × (r ≡ refused_at cause place)
step-refuses true cause place e = (refl, cc)
step-refuses false cause place e = let z : ◌≡◌ {A = ℕ} 0 1 = cc in absurd (omega arith)

pub step-passes : {u : ⊤} (this : Bool) (cause : Cause) (place : ℕ) → Ok u ≡ step this cause place → this ≡ false
step-passes true cause place e = let z : ◌≡◌ {A = ℕ} 0 1 = cc in absurd (omega arith)
step-passes false cause place e = refl

-- .. and goes on to the next
pub step-on : (d : Sizes) {u : ⊤} (this : Bool) (cause : Cause) (place : ℕ) (more : List (Bool × Cause × ℕ)) → Ok u ≡ step this cause place
    → steps (Ok d) more ≡ steps (Ok d) ((this, cause, place) ∷ more)
step-on d this cause place more e = rw (step-passes this cause place e)

-- a loop through the steps, at one of them
module _ (d : Sizes) (all : List (Bool × Cause × ℕ)) (i : ℕ) (none : Bool × Cause × ℕ) where
  here : i < length all → drop i all ≡ get_or all i none ∷ drop (i + 1) all
  here h = rw (add-one, drop-cons all i none h)

  pub loop-stops : {r : Refusal} → i < length all → Err r ≡ step (get_or all i none).0 (get_or all i none).1 (get_or all i none).2 → Err r ≡ steps (Ok d) (drop i all)
  loop-stops h e = rw (here h) (step-stops d (get_or all i none).0 (get_or all i none).1 (get_or all i none).2 (drop (i + 1) all) e)

  pub loop-on : {u : ⊤} → i < length all → Ok u ≡ step (get_or all i none).0 (get_or all i none).1 (get_or all i none).2
      → steps (Ok d) (drop (i + 1) all) ≡ steps (Ok d) (drop i all)
  loop-on h e = rw (here h) (step-on d (get_or all i none).0 (get_or all i none).1 (get_or all i none).2 (drop (i + 1) all) e)

-- ---- at most one conclusion is right where at most one thing is
pub concludes-one : {Answer Lent Thing : Type 0} (found : Result Sizes Refusal) (refusal : Refusal → Answer) (lent : Lent) (Right : Sizes → Thing → Type 0)
    (tell : Sizes → Thing → Answer × Lent) (end other : Answer × Lent) → ((d : Sizes) (x y : Thing) → Right d x → Right d y → x ≡ y)
    → Concludes found refusal lent Right tell end → Concludes found refusal lent Right tell other → end ≡ other
concludes-one (Err r) refusal lent Right tell end other one a b = a ∙ sym b
concludes-one (Ok d) refusal lent Right tell end other one a b =
    a.same ∙ ap (tell d) (one d a.thing b.thing a.right b.right) ∙ sym b.same

-- ---- two books that the same steps admit
steps-both : (more : List (Bool × Cause × ℕ)) (d e : Sizes)
    → ((r : Refusal) × (steps (Ok d) more ≡ Err r) × (steps (Ok e) more ≡ Err r)) ⊎ ((steps (Ok d) more ≡ Ok d) × (steps (Ok e) more ≡ Ok e))
steps-both [] d e = inr (refl, refl)
steps-both ((true, cause, place) ∷ more) d e =
    let r : Refusal = refused_at cause place in inl (r, steps-refused more r, steps-refused more r)
steps-both ((false, cause, place) ∷ more) d e = steps-both more d e

-- what is answered by the refusal alone, or else by something that does not look at the sizes
pub steps_alike : {A : Type 0} (more : List (Bool × Cause × ℕ)) (d e : Sizes) (told : Result Sizes Refusal → A) → told (Ok d) ≡ told (Ok e)
    → told (steps (Ok d) more) ≡ told (steps (Ok e) more)
steps_alike more d e told same = ⊎_elim (λ (r, f, g). ap told (f ∙ sym g)) (λ (f, g). ap told f ∙ same ∙ ap told (sym g)) (steps-both more d e)

pub concludes-alike : {Answer Lent Thing : Type 0} (more : List (Bool × Cause × ℕ)) (d e : Sizes) (refusal : Refusal → Answer) (lent : Lent)
    (Right Right' : Sizes → Thing → Type 0) (tell tell' : Sizes → Thing → Answer × Lent) (end : Answer × Lent)
    → ((x : Thing) → Right d x → Right' e x) → ((x : Thing) → tell d x ≡ tell' e x)
    → Concludes (steps (Ok d) more) refusal lent Right tell end → Concludes (steps (Ok e) more) refusal lent Right' tell' end
concludes-alike more d e refusal lent Right Right' tell tell' end right same c = ⊎_elim
    (λ (r, f, g). rw g (rw f at c))
    (λ (f, g). rw g (let t : Tells (Right d) (tell d) end = rw f at c in record { thing = t.thing; right = right t.thing t.right; same = t.same ∙ same t.thing }))
    (steps-both more d e)
