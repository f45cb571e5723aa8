-- Definitions for the laws of claims: closed claims are at most the true costs, closed and witnessed claims are exact, and so is what is least over them. Assumes nothing.
use Rattle.std.specs.Prelude.{◌≡◌, ℕ, suc}
use Rattle.book.specs.Tables.{Tables}
use Rattle.book.specs.declared.Action.TheVariants.{Shift}
use Rattle.walk.specs.Scale.{Scale}
use Rattle.walk.specs.Claims.{Claims, Claimed}
use Rattle.walk.specs.Sum.{shift_cost, plus}

-- how a claimed walk begins
pub data Start (σ : Scale) (B : Tables) (claim : Claims) (q a : ℕ) : ℕ → ℕ → ℕ → ℕ → Type 0 where
  nowhere : Start σ B claim q a 0 a 0 q
  shift-first : {q₁ b v z n q' : ℕ} → B.act q a ≡ Shift q₁ → Claimed σ B claim q₁ b v z n q' → Start σ B claim q a (plus σ (shift_cost σ a) v) z (suc n) q'
  goto-first : {q₁ b v z n q' : ℕ} (X : ℕ) → B.goto q X ≡ suc q₁ → Claimed σ B claim q₁ b v z n q' → Start σ B claim q a (plus σ (claim q X a b) v) z (suc n) q'
