-- Laws of filled cells: one more, their number, and what stands inside and outside. Assumes nothing.
use Rattle.std.specs.Prelude.{List, ◌++◌, ◌⊎◌, ◌≡◌, length, set, drop, replicate}
use Rattle.std.proofs.Math.Logic.{⊎_elim, ⊎_map}
use Rattle.std.proofs.Math.Path.{refl}
use Rattle.std.proofs.Common.{◌∙◌, zero-add, arith, get_or-set_same}
use Prim.Native.Nat.{ℕ, zero, suc, ◌+◌, ◌≤◌, ◌<◌}
use Rattle.std.proofs.Math.Decide.{ℕ_discrete}
use Rattle.std.proofs.Math.Numerals.{add-one}
use Rattle.std.proofs.lemmas.List.Edits.{fill_more}
use Rattle.std.proofs.Math.ListN.{get_or, length-set}
use Rattle.std.proofs.Math.Seq.{get_or-set_other}
use Rattle.walk.specs.Fill.{filled}

module _ (l : List ℕ) (start : ℕ) where
  pub filled_none : (v : ℕ) → l ≡ filled l start 0 v
  unfolding filled
  filled_none v = refl

  pub filled_more : (n v : ℕ) → set (filled l start n v) (start + n) v ≡ filled l start (n + 1) v
  unfolding filled
  filled_more n v = rw add-one

  pub filled-size : (n v : ℕ) → length (filled l start n v) ≡ length l
  unfolding filled
  filled-size zero v = refl
  filled-size (suc n) v = length-set (filled l start n v) (start + n) v ∙ filled-size n v

  pub filled-inside : (n v k : ℕ) → start + n ≤ length l → start ≤ k → k < start + n → get_or (filled l start n v) k 0 ≡ v
  unfolding filled
  filled-inside zero v k h a b = absurd (omega arith)
  filled-inside (suc n) v k h a b = go (ℕ_discrete k (start + n)) (λ c. filled-inside n v k (omega arith) a c)
    where
      go : Dec (k ≡ start + n) → (k < start + n → get_or (filled l start n v) k 0 ≡ v) → get_or (set (filled l start n v) (start + n) v) k 0 ≡ v
      go (yes e) f = rw e (get_or-set_same (filled l start n v) (start + n) v 0 (omega (arith, filled-size n v)))
      go (no m) f = get_or-set_other (filled l start n v) (start + n) k v 0 m ∙ f (omega arith)

  pub filled-outside : (n v k : ℕ) → (k < start) ⊎ (start + n ≤ k) → get_or (filled l start n v) k 0 ≡ get_or l k 0
  unfolding filled
  filled-outside zero v k o = refl
  filled-outside (suc n) v k o =
      let m : ¬ (k ≡ start + n) = ⊎_elim (λ a e. omega arith) (λ a e. omega arith) o in
      get_or-set_other (filled l start n v) (start + n) k v 0 m ∙ filled-outside n v k (⊎_map (λ a. a) (λ a. omega arith) o)

-- .. from the first cell on
pub filled-front : (l : List ℕ) (n v : ℕ) → n ≤ length l → filled l 0 n v ≡ replicate n v ++ drop n l
unfolding filled
filled-front l zero v h = refl
filled-front l (suc n) v h = rw (filled-front l n v (omega arith), zero-add n, fill_more n v l (omega arith), add-one n)
