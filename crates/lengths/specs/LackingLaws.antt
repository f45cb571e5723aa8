-- Laws of the states without a goto that are turned on: none, one that is left out, one more. Assumes nothing.
use Rattle.std.specs.Prelude.{true, List, ◌≡◌, ℕ, ◌+◌, ◌≤◌, ◌<◌, get_or, replicate}
use Rattle.std.proofs.Common.{sym, ◌∙◌, le_refl, arith}
use Rattle.std.proofs.Math.Decide.{ℕ_discrete}
use Rattle.sets.specs.Bits.{member}
use Rattle.book.specs.Tables.{Tables}
use Rattle.walk.specs.Scale.{Scale, unreached}
use Rattle.layers.specs.Layer.{entry_in}
use Rattle.layers.specs.States.{flag_in}
use Rattle.layers.specs.StatesLaws.{cleared-cell, listed-none, listed-most, listed-off, listed_more, added, added-flag, added-flag-other}
use Rattle.lengths.specs.Lengths.{LackingOn}

module _ {σ : Scale} {t : ℕ} {B : Tables} {X : ℕ} {dist masks : List ℕ} where
  pub lacking-none : LackingOn σ t B X dist masks 0 (replicate 257 0)
  lacking-none = record {
    listed = listed-none;
    lacking = λ q n. absurd (n (cleared-cell 257 (129 + q)));
    off = λ q a h ha e g n. absurd (omega arith);
  }

  module _ {i : ℕ} {flags : List ℕ} (l : LackingOn σ t B X dist masks i flags) where
    pub lacking-left-out : (B.goto i X ≡ 0 → member (get_or masks i 0) X ≡ true → (a : ℕ) → a < t → unreached σ ≤ entry_in dist i a) → LackingOn σ t B X dist masks (i + 1) flags
    lacking-left-out f = record {
      listed = listed-most (omega arith) l.listed;
      lacking = l.lacking;
      off = λ q a h ha e g n. off q a h ha e g n (ℕ_discrete q i);
    }
      where
        off : (q a : ℕ) → q < i + 1 → a < t → flag_in flags q ≡ 0 → B.goto q X ≡ 0 → member (get_or masks q 0) X ≡ true → Dec (q ≡ i) → unreached σ ≤ entry_in dist q a
        off q a h ha e g n (yes j) = rw j (f (rw j at g) (rw j at n) a ha)
        off q a h ha e g n (no j) = l.off q a (omega arith) ha e g n

    pub lacking-more : i < 128 → B.goto i X ≡ 0 → LackingOn σ t B X dist masks (i + 1) (added flags i)
    lacking-more hi g = record {
      listed = listed_more l.listed hi out (omega arith) (omega arith);
      lacking = λ q n. lacking q n (ℕ_discrete q i);
      off = λ q a h ha e j n. off q a h ha e j n (ℕ_discrete q i);
    }
      where
        out : flag_in flags i ≡ 0
        out = listed-off i l.listed (le_refl i)

        lacking : (q : ℕ) → ¬ (flag_in (added flags i) q ≡ 0) → Dec (q ≡ i) → B.goto q X ≡ 0
        lacking q n (yes j) = rw j g
        lacking q n (no j) = l.lacking q (λ e. n (added-flag-other l.listed hi out q j ∙ e))

        off : (q a : ℕ) → q < i + 1 → a < t → flag_in (added flags i) q ≡ 0 → B.goto q X ≡ 0 → member (get_or masks q 0) X ≡ true → Dec (q ≡ i) → unreached σ ≤ entry_in dist q a
        off q a h ha e x n (yes j) = absurd (omega (arith, added-flag l.listed hi out, rw j at e))
        off q a h ha e x n (no j) = l.off q a (omega arith) ha (sym (added-flag-other l.listed hi out q j) ∙ e) x n
