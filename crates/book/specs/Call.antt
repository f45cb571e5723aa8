-- A call: what refuses it before it does anything, and what it answers and leaves. Assumes nothing.
use Rattle.std.specs.Prelude.{⊤, Result, Ok, Err, Bool, cond, List, [], ◌∷◌, ◌≡◌, ℕ}
use Rattle.number.specs.Number.{refused_at}
use Rattle.number.specs.declared.{cause.Cause.Cause, cause.Refusal.Refusal}
use Rattle.book.specs.declared.Sizes.{Sizes}

-- one step of an admission: where this holds the call is refused for the cause at the place
abbrev pub step : Bool → Cause → ℕ → Result ⊤ Refusal
step this cause place = cond this (Err (refused_at cause place)) (Ok tt)

-- .. unless it is refused already
abbrev pub unless : Result Sizes Refusal → Bool → Cause → ℕ → Result Sizes Refusal
unless (Err r) this cause place = Err r
unless (Ok d) this cause place = cond this (Err (refused_at cause place)) (Ok d)

-- the steps of an admission in their order
abbrev pub steps : Result Sizes Refusal → List (Bool × Cause × ℕ) → Result Sizes Refusal
steps found [] = found
steps found ((this, cause, place) ∷ more) = steps (unless found this cause place) more

-- 'Order: book from the front ..; then ..': the check of the book, then the steps for its sizes
abbrev pub admits : Result Sizes Refusal → (Sizes → List (Bool × Cause × ℕ)) → Result Sizes Refusal
admits (Err r) after = Err r
admits (Ok d) after = steps (Ok d) (after d)

-- what is told is something right
pub record Tells {Thing Told : Type 0} (Right : Thing → Type 0) (tell : Thing → Told) (told : Told) : Type 0 where
  pub thing : Thing
  pub right : Right thing
  pub same : told ≡ tell thing

-- what a call answers, and what lent memory holds after it: the refusal, which 'leaves all lent memory as it found it'; or, where it is
-- admitted, something right, told in both
abbrev pub Concludes : {Answer Lent Thing : Type 0} → Result Sizes Refusal → (Refusal → Answer) → Lent → (Sizes → Thing → Type 0)
    → (Sizes → Thing → Answer × Lent) → Answer × Lent → Type 0
Concludes (Err r) refusal lent Right tell end = end ≡ (refusal r, lent)
Concludes (Ok d) refusal lent Right tell end = Tells (Right d) (tell d) end
