-- Laws of lent memory: a result is written piece by piece. Assumes nothing.
use Rattle.std.specs.Prelude.{◌≡◌, length}
use Rattle.std.proofs.Math.Path.{refl, sym, ap}
use Rattle.std.proofs.Common.{◌∙◌, not-suc-le-zero, length-append, length-drop, take_all, drop-drop}
use mathlib.Core.List.{List, [], ◌∷◌, ◌++◌, append_assoc}
use Prim.Native.Nat.{ℕ, zero, suc, ◌+◌, ◌≤◌, ◌<◌}
use Rattle.std.proofs.Math.Decide.{ℕ_discrete}
use native.Mathlib.Omega.{arith}
use Rattle.std.proofs.Math.ListN.{get_or, get_or-append}
use Rattle.std.proofs.Math.Seq.{paste, take-append_seam, drop-append-add, get_or-append_seam}
use Rattle.std.proofs.lemmas.List.Edits.{sets, sets-eq}
use Rattle.number.specs.Lent.{over, firsts}

pub length_over : (out lent : List ℕ) → length out ≤ length lent → length (over out lent) ≡ length lent
length_over out lent h = simp (length-append, length-drop) (omega arith)

-- a piece more, stored after those that are there
pub over-more : (done out lent : List ℕ) → length done + length out ≤ length lent → sets (over done lent) (length done) out ≡ over (done ++ out) lent
over-more done out lent h =
    sets-eq out (over done lent) (length done) (rw (length_over done lent (omega arith)) h)
    ∙ rw (take-append_seam, drop-append-add, drop-drop, length-append, append_assoc)

-- .. copied there
pub over-paste : (done out lent : List ℕ) (at n : ℕ) → length done ≡ at → length out ≡ n → paste (over done lent) at out n ≡ over (done ++ out) lent
over-paste done out lent at n e f =
    rw (← e, ← f, take-append_seam, take_all (length out) out (omega arith), drop-append-add, drop-drop, length-append, append_assoc)

-- ---- the first numbers of a function
module _ (f : ℕ → ℕ) where
  pub firsts-length : (n : ℕ) → length (firsts f n) ≡ n
  unfolding firsts
  firsts-length zero = refl
  firsts-length (suc n) = rw (length-append, firsts-length n) (omega arith)

  pub firsts-entry : (n i : ℕ) → i < n → get_or (firsts f n) i 0 ≡ f i
  unfolding firsts
  firsts-entry zero i h = absurd (not-suc-le-zero h)
  firsts-entry (suc n) i h = go (ℕ_discrete i n) (λ l. firsts-entry n i l)
    where
      go : Dec (i ≡ n) → (i < n → get_or (firsts f n) i 0 ≡ f i) → get_or (firsts f n ++ (f n ∷ [])) i 0 ≡ f i
      go (yes e) r = ap (λ (k : ℕ). get_or (firsts f n ++ (f n ∷ [])) k 0) (e ∙ sym (firsts-length n)) ∙ get_or-append_seam (firsts f n) (f n) [] 0 ∙ ap f (sym e)
      go (no k) r =
          let l : i < n = omega arith in
          get_or-append (firsts f n) (f n ∷ []) 0 i (rw (firsts-length n) l) ∙ r l
