-- Searches for the lowest index, and the verdict by the lowest fault of each condition. Assumes nothing.
use Rattle.std.specs.Prelude.{cond, ℕ, zero, suc, ◌<◌, min, ltb}
use Rattle.certificate.specs.Certificate.{order}
use Rattle.certificate.specs.declared.{Condition.Condition, Verdict.Verdict}

-- the least of f below n, or the top
abbrev pub least_below : ℕ → ℕ → (ℕ → ℕ) → ℕ
least_below top zero f = top
least_below top (suc n) f = min (least_below top n f) (f n)

-- no condition before this place in the order fails
abbrev pub Before : (Condition → ℕ → Type 0) → ℕ → Type 0
Before fails n = (k : Condition) (i : ℕ) → order k < n → ¬ fails k i

-- 'the first condition in this order .. with the lowest claim's index': a fault that was found, or what comes of the later conditions
abbrev pub found : ℕ → Condition → ℕ → Verdict → Verdict
found top k i onward = cond (ltb i top) (Verdict.Fault k i) onward

unfoldable pub told : ℕ → (Condition → ℕ) → Verdict
told top low =
    found top Condition.Range (low Condition.Range)
    (found top Condition.Roads (low Condition.Roads)
    (found top Condition.Start (low Condition.Start)
    (found top Condition.Transitions (low Condition.Transitions)
    (found top Condition.Short (low Condition.Short) (found top Condition.Sentences (low Condition.Sentences) Verdict.Accepted)))))
