-- Laws of a result that is told by its length: where it has room, and where it stands. Assumes nothing.
use Rattle.number.specs.declared.cause.Cause.{Cause}
use Rattle.number.specs.Number.{refused_at}
use Rattle.std.specs.Prelude.{Ok, Err, Bool, true, false, cond, List, ◌≡◌, refl, ℕ, ◌≤◌, ◌<◌, leb, length, take}
use Rattle.std.proofs.Common.{sym, ap, leb-true, le-leb}
use Rattle.std.proofs.lemmas.Bool.{lt-leb}
use Rattle.std.proofs.Math.Seq.{take-append_seam}
use Rattle.number.specs.Lent.{over}
use Rattle.number.specs.declared.cause.Refusal.{Refusal}
use Rattle.machine.specs.MachineLaws.{clash}
use Rattle.sorting.specs.Sorting.{fitted}

-- a result of n bytes had room in lent bytes, and this is what they hold
pub record Fits (result lent : List ℕ) (n : ℕ) (out : List ℕ) : Type 0 where
  pub count : length result ≡ n
  pub room : n ≤ length lent
  pub left : out ≡ over result lent

pub fits-front : {result lent out : List ℕ} {n : ℕ} → Fits result lent n out → take n out ≡ result
fits-front f = rw (f.left, ← f.count, take-append_seam)

pub fitted_short : {Answer : Type 0} (count : ℕ → Answer) (refuse : Refusal → Answer) (result lent : List ℕ) → length lent < length result
    → (refuse (refused_at Cause.Output 0), lent) ≡ fitted count refuse result lent
fitted_short count refuse result lent h = rw (lt-leb (length result) (length lent) h)

module _ {Answer : Type 0} (count : ℕ → Answer) (refuse : Refusal → Answer) (result lent : List ℕ) {n : ℕ} where
  pub fits_told : length result ≡ n → n ≤ length lent → fitted count refuse result lent ≡ (count n, over result lent)
  fits_told e room = rw (e, le-leb n (length lent) room)

  pub fitted-put : {out : List ℕ} → length result ≡ n → n ≤ length lent → out ≡ over result lent → (count n, out) ≡ fitted count refuse result lent
  fitted-put e room f = rw f (sym (fits_told e room))

  -- an answer that is a count, and so no refusal and no other count
  pub told-fits : ((m : ℕ) → count m ≡ count n → m ≡ n) → ((r : Refusal) → refuse r ≡ count n → ⊥) → {out : List ℕ}
      → fitted count refuse result lent ≡ (count n, out) → Fits result lent n out
  told-fits same apart {out} e = go (leb (length result) (length lent)) refl e
    where
      go : (b : Bool) → leb (length result) (length lent) ≡ b
          → ◌≡◌ {A = Answer × List ℕ} (cond b (count (length result), over result lent) (refuse (refused_at Cause.Output 0), lent)) (count n, out)
          → Fits result lent n out
      go true f h =
          let size : length result ≡ n = same (length result) (ap (λ (p : Answer × List ℕ). p.0) h) in
          record { count = size; room = rw size at (leb-true (length result) (length lent) f); left = sym (ap (λ (p : Answer × List ℕ). p.1) h) }
      go false f h = absurd (apart _ (ap (λ (p : Answer × List ℕ). p.0) h))

-- .. of those that are the Ok of a Result
pub told-fits-ok : {E : Type 0} (refuse : Refusal → E) (result lent : List ℕ) {n : ℕ} {out : List ℕ}
    → fitted Ok (λ r. Err (refuse r)) result lent ≡ (Ok n, out) → Fits result lent n out
told-fits-ok refuse result lent e = told-fits Ok (λ r. Err (refuse r)) result lent (λ m h. cc) (λ r h. clash cc) e
